-- What a replica keeps stays its own.
use Rattle.std.proofs.Common.{◌≡◌, ◌∙◌, ℕ, true, not, ◌==◌, if◌then◌else◌, List, [], ◌∷◌, ◌++◌, Option, None, Some, Result, Ok, Err, IfOk, OnErr, refl, sym, subst}
use Rattle.std.specs.List.{AllByRecursion}
use Rattle.salus_types.specs.Volume.{Shape}
use Rattle.salus_types.specs.declared.memory.NoMemory.{NoMemory}
use Rattle.salus_types.specs.declared.records.Record.{Record}
use Rattle.client_tag.specs.Ranges.{IsRecord}
use Rattle.replica_rules.specs.Views.{view_after, is_accepted}
use Rattle.replica_rules.specs.Replicas.{Replica, Applied, KeptTaken, next_kept, without_kept, take_out, take_kept, with_view, is_for, all_kept_in_turn, AskTaken, answer_to, is_asked_here, is_due, take_ask, with_ask}
use Rattle.salus_message.specs.declared.small.Ask.{Ask}
use Rattle.salus_message.specs.declared.replies.Answer.{Answer}
use Rattle.region_replica.specs.Asking.{IsAskTaken}
use Rattle.region_replica.specs.Serving.{Serving, IsFor}
use Rattle.region_replica.specs.Turning.{IsKeptTaken, IsTurn}
use Rattle.region_replica.proofs.KeptTurns.{after_parts, turn-more}
use Rattle.open_session.specs.Kept.{KeepsRecords, StaysOwn}
use Rattle.open_session.specs.Applying.{CanBeTaken}
use Rattle.list_lemmas.proofs.Each.{either_way, all_both, all_filter, any_way}
use Rattle.list_lemmas.proofs.Members.{among_all}

pub stays-same : (s : Serving) → StaysOwn s s
stays-same s = record { shape = refl; region = refl; session = refl; records = λ all. all }

pub stays-by : (s t : Serving) → t ≡ s → StaysOwn s t
stays-by s t same = subst (λ x. StaysOwn s x) (sym same) (stays-same s)

pub stays-then : (r s t : Serving) → StaysOwn r s → StaysOwn s t → StaysOwn r t
stays-then r s t first second = record {
  shape = second.shape ∙ first.shape;
  region = second.region ∙ first.region;
  session = second.session ∙ first.session;
  records = λ all. second.records (first.records all);
}

-- a kept part is taken out
abbrev StillOwn : Replica → Replica → Type 0
StillOwn r s = (s.session ≡ r.session) × (AllByRecursion IsRecord r.early → AllByRecursion IsRecord s.early)

kept_stays : (shape : Shape) (r : Replica) → StillOwn r (take_kept shape r).replica
unfolding take_kept
kept_stays shape r =
    any_way (λ (t : KeptTaken). StillOwn r t.replica) (λ rec. take_out shape r rec) (record { replica = r; part = None }) (next_kept r)
    (λ rec. either_way (is_accepted shape r.view rec) (record { replica = with_view (without_kept r) (view_after shape r.view rec); part = Some rec }) (record { replica = without_kept r; part = None })
    (λ (t : KeptTaken). StillOwn r t.replica)
    (refl, λ all. all_filter IsRecord (λ x. not (x.header.previous == r.view.number)) r.early all)
    (refl, λ all. all_filter IsRecord (λ x. not (x.header.previous == r.view.number)) r.early all))
    (refl, λ all. all)

pub taken-stays : (before after : Serving) (given : Option Record) → IsKeptTaken before after given → StaysOwn before after
taken-stays before after given taken =
    let still = kept_stays before.shape before.replica in
    subst (λ s. StaysOwn before s) (sym taken.state)
    (record { shape = refl; region = refl; session = still.0; records = still.1 })

-- what is for the one is for the other
pub for-same : (before after : Serving) (rec : Record) → StaysOwn before after → IsFor after rec → IsFor before rec
for-same before after rec stays own =
    subst (λ (e : ℕ). is_for before.shape before.region (record before.replica { session = e }) rec ≡ true) stays.session
    (subst (λ (g : ℕ). is_for before.shape g (record before.replica { session = after.replica.session }) rec ≡ true) stays.region
    (subst (λ (shape : Shape). is_for shape after.region (record before.replica { session = after.replica.session }) rec ≡ true) stays.shape own))

-- ---- the loop

pub turns-more : (first now next : Serving) (parts : List Record) (rec : Record) (applied : Applied) → StaysOwn first now → applied ≡ after_parts parts (all_kept_in_turn now.shape now.replica)
    → (KeepsRecords first → AllByRecursion (CanBeTaken first) parts) → IsTurn now next rec
    → (applied ≡ after_parts (parts ++ rec ∷ []) (all_kept_in_turn next.shape next.replica)) × (KeepsRecords first → AllByRecursion (CanBeTaken first) (parts ++ rec ∷ []))
turns-more first now next parts rec applied stays is own turn = (
  turn-more applied parts now next rec is turn,
  λ all. all_both (CanBeTaken first) parts (rec ∷ []) (own all)
      ((among_all IsRecord now.replica.early rec turn.up.kept (stays.records all), for-same first now rec stays turn.up.own), tt),
)

-- ---- an ask

ask_stays : (shape : Shape) (g : ℕ) (r : Replica) (ask : Ask) → StillOwn r (take_ask shape g r ask).replica
unfolding take_ask
ask_stays shape g r ask =
    either_way (not (is_asked_here shape g r ask)) (record { replica = r; answer = None })
    (if is_due r.view ask then record { replica = r; answer = Some (answer_to shape r.view ask) } else record { replica = record r { asks = with_ask r.asks ask }; answer = None })
    (λ (t : AskTaken). StillOwn r t.replica) (refl, λ all. all)
    (either_way (is_due r.view ask) (record { replica = r; answer = Some (answer_to shape r.view ask) }) (record { replica = record r { asks = with_ask r.asks ask }; answer = None })
    (λ (t : AskTaken). StillOwn r t.replica) (refl, λ all. all) (refl, λ all. all))

pub asked-stays : (before after : Serving) (ask : Ask) (result : Result (Option Answer) NoMemory) → IfOk result (IsAskTaken before ask after) → OnErr result (after ≡ before) → StaysOwn before after
asked-stays before after ask (Ok given) taken same =
    let still = ask_stays before.shape before.region before.replica ask in
    subst (λ s. StaysOwn before s) (sym taken.state) (record { shape = refl; region = refl; session = still.0; records = still.1 })
asked-stays before after ask (Err e) taken same = stays-by before after same
