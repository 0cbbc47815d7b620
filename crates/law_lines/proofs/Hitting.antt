-- Which questions an answer is to, and what it is worth to each.
use Rattle.std.proofs.Common.{◌≡◌, ℕ, zero, suc, ◌+◌, Bool, true, false, not, cond, ◌&&◌, ◌||◌, ◌==◌, ◌∙◌, if◌then◌else◌, List, [], ◌∷◌, map, Option, None, Some, refl, ap, ap₂, sym}
use Rattle.std.specs.Prelude.{filter}
use Rattle.std.specs.List.{list_any, list_all, range_with_len}
use Rattle.std.specs.Option.{option_or}
use Rattle.std.proofs.lemmas.Bool.{and_parts, or_parts}
use Rattle.salus_types.specs.Volume.{Shape}
use Rattle.salus_types.specs.declared.names.NodeName.{NodeName}
use Rattle.salus_types.specs.declared.strike.Strike.{Strike}
use Rattle.salus_message.specs.declared.replies.Answer.{Answer}
use Rattle.salus_message.specs.declared.wire.Message.TheVariants as message
use Rattle.printed_lines.specs.declared.line.Line.{Line}
use Rattle.salus_model.specs.declared.trace.TraceStep.{TraceStep}
use Rattle.salus_model.specs.Judge.{Judge}
use Rattle.salus_model.specs.Hearing.{Says, Past}
use Rattle.salus_model.specs.Waiting.{Question, is_asked}
use Rattle.salus_model.specs.Answering.{Verdict, Stale, Good, Struck, is_fitting, verdict_of, is_answer, is_known, first_strike, is_good, strike_by}
use Rattle.client_rules.specs.Tables.{answers, struck_from, struck, struck_at}
use Rattle.list_lemmas.proofs.Tests.{by_test, or_false, or_none}
use Rattle.list_lemmas.proofs.Lists.{map_same}
use Rattle.law_lines.specs.Mirror.{open_of}
use Rattle.law_lines.proofs.Histories.{past, AgreeOn, agree-none, agree-same}

-- the answer is to that number and block
abbrev pub hits : Answer → Question → Bool
hits a q = (a.read == q.number) && (a.block == q.block)

abbrev pub is_ours : Shape → Judge → NodeName → Answer → Bool
is_ours shape judge name a = (a.session == judge.now.session) && is_fitting shape name a

turn_and : (s r b f : Bool) → (((s && r) && b) && f) ≡ ((s && f) && (r && b))
turn_and false r b f = refl
turn_and true false b true = refl
turn_and true false b false = refl
turn_and true true true true = refl
turn_and true true true false = refl
turn_and true true false true = refl
turn_and true true false false = refl

pub answer-is : (shape : Shape) (judge : Judge) (q : Question) (name : NodeName) (a : Answer) → is_answer shape judge q name a ≡ (is_ours shape judge name a && hits a q)
answer-is shape judge q name a = turn_and (a.session == judge.now.session) (a.read == q.number) (a.block == q.block) (is_fitting shape name a)

module _ (shape : Shape) (history : List Past) (judge : Judge) (step : TraceStep) (name : NodeName) (a : Answer) (due : List Line) where
  abbrev pub next : List Past
  next = past step (Says name (message.Answer a)) judge due ∷ history

  worthless : (t u : Bool) (x : ℕ × Verdict) → u ≡ false → (if t then (if u then Some x else None) else None) ≡ None
  worthless true u x is = rw is refl
  worthless false u x is = refl

  -- a question that it doesn't hit
  pub agree-off : (q : Question) → is_answer shape judge q name a ≡ false → AgreeOn shape q next history
  agree-off q off = agree-none shape q history _ (worthless (is_asked shape history judge q) (is_answer shape judge q name a) (name.replica, verdict_of shape judge a) off)

  -- a question that isn't asked
  pub agree-unasked : (q : Question) → is_asked shape history judge q ≡ false → AgreeOn shape q next history
  agree-unasked q off = agree-none shape q history _ (ap (λ t. if t then (if is_answer shape judge q name a then Some (name.replica, verdict_of shape judge a) else None) else None) off)

  stale_known : (t u : Bool) (r : ℕ) → is_good (if t then (if u then Some (r, Stale) else None) else None) ≡ false
  stale_known true true r = refl
  stale_known true false r = refl
  stale_known false u r = refl

  stale_strike : (t u : Bool) (r by : ℕ) → strike_by r (if t then (if u then Some (by, Stale) else None) else None) ≡ None
  stale_strike true true r by = refl
  stale_strike true false r by = refl
  stale_strike false u r by = refl

  -- a stale answer
  pub agree-stale : verdict_of shape judge a ≡ Stale → (q : Question) → AgreeOn shape q next history
  unfolding is_known first_strike
  agree-stale stale q = record {
    known = ap (λ v. is_known shape q history || is_good (if is_asked shape history judge q then (if is_answer shape judge q name a then Some (name.replica, v) else None) else None)) stale
        ∙ ap (λ t. is_known shape q history || t) (stale_known (is_asked shape history judge q) (is_answer shape judge q name a) name.replica) ∙ or_false _;
    strikes = λ r. ap (λ v. option_or (first_strike shape q r history) (strike_by r (if is_asked shape history judge q then (if is_answer shape judge q name a then Some (name.replica, v) else None) else None))) stale
        ∙ ap (option_or (first_strike shape q r history)) (stale_strike (is_asked shape history judge q) (is_answer shape judge q name a) r name.replica) ∙ or_none _;
  }

  -- a good answer
  pub known-good : verdict_of shape judge a ≡ Good → (q : Question) → is_asked shape history judge q ≡ true
      → is_known shape q next ≡ (is_known shape q history || is_answer shape judge q name a)
  unfolding is_known
  known-good good q asked =
      ap₂ (λ v t. is_known shape q history || is_good (if t then (if is_answer shape judge q name a then Some (name.replica, v) else None) else None)) good asked
      ∙ ap (λ t. is_known shape q history || t) (one (is_answer shape judge q name a))
    where
      one : (u : Bool) → is_good (if u then Some (name.replica, Good) else None) ≡ u
      one true = refl
      one false = refl

  good_strike : (t u : Bool) (r by : ℕ) → strike_by r (if t then (if u then Some (by, Good) else None) else None) ≡ None
  good_strike true true r by = refl
  good_strike true false r by = refl
  good_strike false u r by = refl

  pub strikes-good : verdict_of shape judge a ≡ Good → (q : Question) (r : ℕ) → first_strike shape q r next ≡ first_strike shape q r history
  unfolding first_strike
  strikes-good good q r =
      ap (λ v. option_or (first_strike shape q r history) (strike_by r (if is_asked shape history judge q then (if is_answer shape judge q name a then Some (name.replica, v) else None) else None))) good
      ∙ ap (option_or (first_strike shape q r history)) (good_strike (is_asked shape history judge q) (is_answer shape judge q name a) r name.replica) ∙ or_none _

  struck_known : (t u : Bool) (r : ℕ) (s : Strike) → is_good (if t then (if u then Some (r, Struck s) else None) else None) ≡ false
  struck_known true true r s = refl
  struck_known true false r s = refl
  struck_known false u r s = refl

  -- an answer that strikes
  pub known-struck : (s : Strike) → verdict_of shape judge a ≡ Struck s → (q : Question) → is_known shape q next ≡ is_known shape q history
  unfolding is_known
  known-struck s struck_so q =
      ap (λ v. is_known shape q history || is_good (if is_asked shape history judge q then (if is_answer shape judge q name a then Some (name.replica, v) else None) else None)) struck_so
      ∙ ap (λ t. is_known shape q history || t) (struck_known (is_asked shape history judge q) (is_answer shape judge q name a) name.replica s) ∙ or_false _

  pub strikes-struck : (s : Strike) → verdict_of shape judge a ≡ Struck s → (q : Question) → is_asked shape history judge q ≡ true → is_answer shape judge q name a ≡ true → (r : ℕ)
      → first_strike shape q r next ≡ option_or (first_strike shape q r history) (if name.replica == r then Some s else None)
  unfolding first_strike
  strikes-struck s struck_so q asked hit r =
      ap₂ (λ t u. option_or (first_strike shape q r history) (strike_by r (if t then (if u then Some (name.replica, verdict_of shape judge a) else None) else None))) asked hit
      ∙ ap (λ v. option_or (first_strike shape q r history) (strike_by r (Some (name.replica, v)))) struck_so

  -- ---- tables that it doesn't touch

  pub off-open : (qs : List Question) → list_any (λ q. is_answer shape judge q name a) qs ≡ false → map (open_of shape next) qs ≡ map (open_of shape history) qs
  off-open [] off = refl
  off-open (q ∷ qs) off =
      let s = or_parts (is_answer shape judge q name a) _ off in
      ap₂ (λ x xs. x ∷ xs) (agree-same shape q next history (agree-off q s.0)) (off-open qs s.1)

  pub off-known : (qs : List Question) → list_any (λ q. is_answer shape judge q name a) qs ≡ false
      → filter (λ q. not (is_known shape q next)) qs ≡ filter (λ q. not (is_known shape q history)) qs
  off-known [] off = refl
  off-known (q ∷ qs) off =
      let s = or_parts (is_answer shape judge q name a) _ off in
      ap₂ (λ t xs. cond (not t) (q ∷ xs) xs) (agree-off q s.0).known (off-known qs s.1)

  pub off-any : (qs : List Question) → list_any (λ q. is_answer shape judge q name a) qs ≡ false
      → list_any (λ q. is_known shape q next) qs ≡ list_any (λ q. is_known shape q history) qs
  off-any [] off = refl
  off-any (q ∷ qs) off =
      let s = or_parts (is_answer shape judge q name a) _ off in
      ap₂ (λ t u. t || u) (agree-off q s.0).known (off-any qs s.1)

  pub off-filter : (p : Question → Bool) (qs : List Question) → list_any (λ q. is_answer shape judge q name a) qs ≡ false
      → list_any (λ q. is_answer shape judge q name a) (filter p qs) ≡ false
  off-filter p [] off = refl
  off-filter p (q ∷ qs) off =
      let s = or_parts (is_answer shape judge q name a) _ off in
      by_test (λ t. list_any (λ x. is_answer shape judge x name a) (cond t (q ∷ filter p qs) (filter p qs)) ≡ false) (p q)
      (λ _. ap₂ (λ x y. x || y) s.0 (off-filter p qs s.1)) (λ _. off-filter p qs s.1)

  -- ---- a table that it strikes

  struck-list : (i k : ℕ) (by : ℕ) (s : Strike) (f : ℕ → Option Strike)
      → struck_from i by s (map f (range_with_len i k)) ≡ map (λ r. option_or (f r) (if by == r then Some s else None)) (range_with_len i k)
  unfolding struck_from
  struck-list i zero by s f = refl
  struck-list i (suc k) by s f = ap (λ xs. option_or (f i) (if by == i then Some s else None) ∷ xs) (struck-list (i + 1) k by s f)

  pub struck-strikes : (s : Strike) (q : Question)
      → (struck name.replica s (open_of shape history q)).strikes ≡ map (λ r. option_or (first_strike shape q r history) (if name.replica == r then Some s else None)) (range_with_len 0 shape.replicas)
  struck-strikes s q = struck-list 0 shape.replicas name.replica s (λ r. first_strike shape q r history)

  pub struck-open : (s : Strike) → verdict_of shape judge a ≡ Struck s → is_ours shape judge name a ≡ true → (q : Question) → is_asked shape history judge q ≡ true
      → (if answers a (open_of shape history q) then struck name.replica s (open_of shape history q) else open_of shape history q) ≡ open_of shape next q
  struck-open s struck_so ours q asked =
      by_test (λ t. hits a q ≡ t → (if t then struck name.replica s (open_of shape history q) else open_of shape history q) ≡ open_of shape next q) (hits a q)
      (λ _ hit. λ i. record { question = q; strikes = strikes_so hit i })
      (λ _ off. sym (agree-same shape q next history (agree-off q (answer-is shape judge q name a ∙ ap₂ (λ x y. x && y) ours off)))) refl
    where
      strikes_so : hits a q ≡ true → (struck name.replica s (open_of shape history q)).strikes ≡ map (λ r. first_strike shape q r next) (range_with_len 0 shape.replicas)
      strikes_so hit =
          struck-strikes s q
          ∙ map_same _ _ (λ r. sym (strikes-struck s struck_so q asked (answer-is shape judge q name a ∙ ap₂ (λ x y. x && y) ours hit) r)) (range_with_len 0 shape.replicas)

  pub struck-table : (s : Strike) → verdict_of shape judge a ≡ Struck s → is_ours shape judge name a ≡ true → (qs : List Question) → list_all (λ q. is_asked shape history judge q) qs ≡ true
      → struck_at a name.replica s (map (open_of shape history) qs) ≡ map (open_of shape next) qs
  struck-table s struck_so ours [] asked = refl
  struck-table s struck_so ours (q ∷ qs) asked =
      let t = and_parts (is_asked shape history judge q) _ asked in
      ap₂ (λ x xs. x ∷ xs) (struck-open s struck_so ours q t.0) (struck-table s struck_so ours qs t.1)
