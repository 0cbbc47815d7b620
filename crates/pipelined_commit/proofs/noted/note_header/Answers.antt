use Rattle.std.proofs.Common.{◌≡◌, ◌∙◌, ◌<◌, ℕ, List, length, insert, not, ap, sym, subst, arith}
use Rattle.replica_rules.specs.Voting.{share_place}
use Rattle.pipelined_commit.specs.Noting.{Noted, noted_of, IsNoted, without_place, put_note}
use Rattle.pipelined_commit.proofs.Numbers.{IsNoted-filter, IsNoted-put, without_place-apart, few_noted}
use Rattle.pipelined_commit.proofs.noted.note_header.Goals as goal

kept_noted : (notes : List Noted) (x : ℕ) → IsNoted notes → IsNoted (without_place notes x)
kept_noted notes x noted = IsNoted-filter (λ (o : Noted). not (share_place o.seq x)) notes noted

pub unreachable-requires : goal.unreachable-requires
unreachable-requires c =
    let kept : List Noted = without_place c.args.noted.now.items c.args.header.now.seq in
    let few : length kept < 16 =
    few_noted kept c.args.header.now.seq (kept_noted c.args.noted.now.items c.args.header.now.seq c.requires.noted) (without_place-apart c.args.noted.now.items c.args.header.now.seq) in
    let same : c.as_slice-2.result.now ≡ kept = c.as_slice-2.ensures.value ∙ c.clear_place.ensures.items in
    let long : length c.as_slice-2.result.now ≡ length kept = ap length same in
    omega (arith, c.in-Err.ensures.full, c.clear_place.ensures.room, c.as_slice-2.ensures.len, c.requires.room)

pub returns-clause-noted : goal.returns-clause-noted
returns-clause-noted c =
    let kept : List Noted = without_place c.args.noted.now.items c.args.header.now.seq in
    let same : c.as_slice-2.result.now ≡ kept = c.as_slice-2.ensures.value ∙ c.clear_place.ensures.items in
    let put : c.insert.new.self.items ≡ put_note kept (noted_of c.args.header.now) =
    c.in-Ok.ensures.items ∙ ap (λ l. insert l c.place_of-place.result c.of.result) (sym c.as_slice-2.ensures.value)
    ∙ c.place_of-place.ensures.place c.of.result (ap (λ (n : Noted). n.seq) c.of.ensures)
    ∙ ap (λ l. put_note l c.of.result) same ∙ ap (λ n. put_note kept n) c.of.ensures in
    subst (λ l. IsNoted l) (sym put)
    (IsNoted-put kept (noted_of c.args.header.now) (kept_noted c.args.noted.now.items c.args.header.now.seq c.requires.noted) (without_place-apart c.args.noted.now.items c.args.header.now.seq))
