-- Who counts and who is fresh after a step.
use Rattle.std.proofs.Common.{◌≡◌, ℕ, ◌<◌, ◌≤◌, ◌∙◌, Bool, true, false, ◌&&◌, ◌||◌, not, nat_lt, if◌then◌else◌, List, [], ◌∷◌, Some, inl, inr, refl, ap, ap₂, sym, subst, arith}
use Rattle.std.specs.List.{list_any}
use Rattle.std.proofs.lemmas.Bool.{cases_Bool, cond-true, cond-false, or_parts, or_left, or_right, eq-eqb, eqb-true, false≢true}
use Rattle.std.proofs.lemmas.Option.{none-some, same_Some}
use Rattle.salus_types.specs.Volume.{Shape, regions}
use Rattle.salus_types.specs.declared.names.NodeName.{NodeName}
use Rattle.salus_types.specs.declared.names.Sender.TheVariants as sender
use Rattle.schedule_text.specs.declared.schedule.Event.{Event}
use Rattle.printed_lines.specs.declared.line.Line.{Line}
use Rattle.printed_lines.specs.declared.line.Line.TheVariants as line
use Rattle.salus_model.specs.declared.trace.Request.TheVariants as request
use Rattle.merkle_region.specs.Tree.{IsAmong}
use Rattle.volume_model.specs.Groups.{same_party}
use Rattle.salus_model.specs.Hearing.{News, Asks, Says, Crashes, Silence, Past, since, opens, begins, is_open_line}
use Rattle.salus_model.specs.Guarding.{is_lied_for, replaces, asks_session, opens_begun, has_opened, counts}
use Rattle.salus_model.specs.Complete.{session_asked, last_begun}
use Rattle.list_lemmas.proofs.Tests.{by_bool, or_true, and_true, and_false}
use Rattle.law_history.proofs.Heard.{among_since}
use Rattle.kept_model.specs.Nodes.{region_of_node, node_of, is_honest}
use Rattle.kept_model.specs.Phases.{asked_of}
use Rattle.kept_model.specs.Counting.{is_fresh, counts_as, fresh_as}
use Rattle.law_phases.specs.Ordered.{OpensLast, IsOrdered}

-- ---- tests of lists

any_same : {A : Type 0} (f g : A → Bool) (xs : List A) → ((x : A) → IsAmong x xs → f x ≡ g x) → list_any f xs ≡ list_any g xs
any_same f g [] same = refl
any_same f g (x ∷ xs) same = ap₂ (λ a b. a || b) (same x (inl refl)) (any_same f g xs (λ y m. same y (inr m)))

any_none : {A : Type 0} (f : A → Bool) (xs : List A) → ((x : A) → IsAmong x xs → f x ≡ false) → list_any f xs ≡ false
any_none f [] none = refl
any_none f (x ∷ xs) none = ap₂ (λ a b. a || b) (none x (inl refl)) (any_none f xs (λ y m. none y (inr m)))

none_at : {A : Type 0} (f : A → Bool) (xs : List A) (x : A) → list_any f xs ≡ false → IsAmong x xs → f x ≡ false
none_at f [] x none m = absurd m
none_at f (y ∷ xs) x none (inl e) = ap f e ∙ (or_parts (f y) (list_any f xs) none).0
none_at f (y ∷ xs) x none (inr m) = none_at f xs x (or_parts (f y) (list_any f xs) none).1 m

-- ---- what is since a step

since_hit : (test : Past → Bool) (p : Past) (history : List Past) → test p ≡ true → since test (p ∷ history) ≡ []
unfolding since
since_hit test p history hit = cond-true (test p) [] (p ∷ since test history) hit

since_miss : (test : Past → Bool) (p : Past) (history : List Past) → test p ≡ false → since test (p ∷ history) ≡ p ∷ since test history
unfolding since
since_miss test p history miss = cond-false (test p) [] (p ∷ since test history) miss

session_asks : (e : ℕ) (x : News) → session_asked x ≡ Some e → asks_session e x ≡ true
session_asks e (Asks (request.Restart k)) is = eq-eqb k e (same_Some k e is)
session_asks e (Asks (request.Reassign k g)) is = eq-eqb k e (same_Some k e is)
session_asks e (Asks (request.Write batch)) is = absurd (none-some e is)
session_asks e (Asks (request.Read b)) is = absurd (none-some e is)
session_asks e (Asks request.Barrier) is = absurd (none-some e is)
session_asks e (Says name m) is = absurd (none-some e is)
session_asks e Crashes is = absurd (none-some e is)
session_asks e Silence is = absurd (none-some e is)

asks_session-is : (e : ℕ) (x : News) → asks_session e x ≡ true → session_asked x ≡ Some e
asks_session-is e (Asks (request.Restart k)) is = ap Some (eqb-true k e is)
asks_session-is e (Asks (request.Reassign k g)) is = ap Some (eqb-true k e is)
asks_session-is e (Asks (request.Write batch)) is = absurd (false≢true is)
asks_session-is e (Asks (request.Read b)) is = absurd (false≢true is)
asks_session-is e (Asks request.Barrier) is = absurd (false≢true is)
asks_session-is e (Says name m) is = absurd (false≢true is)
asks_session-is e Crashes is = absurd (false≢true is)
asks_session-is e Silence is = absurd (false≢true is)

module _ (name : NodeName) where
  abbrev gone : Past → Bool
  gone p = replaces name p

  abbrev begins_it : ℕ → Past → Bool
  begins_it e p = begins p && asks_session e p.news

  -- where it was replaced since a session was begun, none was begun since it was replaced
  none_begun : (history : List Past) → list_any gone (since begins history) ≡ true → list_any (λ p. begins p) (since gone history) ≡ false
  unfolding since
  none_begun [] some = absurd (false≢true some)
  none_begun (p ∷ history) some = elim (cases_Bool (begins p)) [
    | inl hit ↦ absurd (false≢true (sym (ap (list_any gone) (since_hit begins p history hit)) ∙ some))
    | inr miss ↦
        by_bool (gone p) (list_any (λ q. begins q) (since gone (p ∷ history)) ≡ false)
        (λ here. ap (list_any (λ q. begins q)) (since_hit gone p history here))
        (λ there.
        let more : (gone p || list_any gone (since begins history)) ≡ true = sym (ap (list_any gone) (since_miss begins p history miss)) ∙ some in
        let rest : list_any gone (since begins history) ≡ true = sym (ap (λ t. t || list_any gone (since begins history)) there) ∙ more in
        ap (list_any (λ q. begins q)) (since_miss gone p history there) ∙ ap₂ (λ a b. a || b) miss (none_begun history rest))
  ]

  -- where it wasn't, the session that was begun last was begun since it was replaced
  last_since : (history : List Past) (e : ℕ) → ((q : Past) → IsAmong q history → begins q ≡ true → gone q ≡ false) → list_any gone (since begins history) ≡ false → last_begun history ≡ Some e
      → list_any (begins_it e) (since gone history) ≡ true
  unfolding last_begun
  last_since [] e apart none is = absurd (none-some e is)
  last_since (p ∷ history) e apart none is = elim (cases_Bool (begins p)) [
    | inl hit ↦
        let asked : session_asked p.news ≡ Some e = sym (cond-true (begins p) (session_asked p.news) (last_begun history) hit) ∙ is in
        let here : begins_it e p ≡ true = ap₂ (λ a b. a && b) hit (session_asks e p.news asked) in
        ap (list_any (begins_it e)) (since_miss gone p history (apart p (inl refl) hit)) ∙ or_left (begins_it e p) (list_any (begins_it e) (since gone history)) here
    | inr miss ↦
        let parts = or_parts (gone p) (list_any gone (since begins history)) (sym (ap (list_any gone) (since_miss begins p history miss)) ∙ none) in
        let last : last_begun history ≡ Some e = sym (cond-false (begins p) (session_asked p.news) (last_begun history) miss) ∙ is in
        ap (list_any (begins_it e)) (since_miss gone p history parts.0)
        ∙ or_right (begins_it e p) (list_any (begins_it e) (since gone history)) (last_since history e (λ q m. apart q (inr m)) parts.1 last)
  ]

  -- ---- a step that opens nothing

  begun_same : (p : Past) (steps : List Past) (l : Line) → ((e : ℕ) → l ≡ line.Open e → begins_it e p ≡ false) → opens_begun (p ∷ steps) l ≡ opens_begun steps l
  begun_same p steps (line.Open e) none = ap (λ t. t || list_any (begins_it e) steps) (none e refl)
  begun_same p steps (line.Submit v s) none = refl
  begun_same p steps (line.Ack s) none = refl
  begun_same p steps (line.Read v b x) none = refl
  begun_same p steps (line.Fault v b strikes) none = refl
  begun_same p steps (line.Barrier v s) none = refl
  begun_same p steps (line.Refused v cause) none = refl
  begun_same p steps (line.Skip v k) none = refl
  begun_same p steps (line.Stage e f s) none = refl
  begun_same p steps (line.Lost e) none = refl

  closed_line : (steps : List Past) (l : Line) → is_open_line l ≡ false → opens_begun steps l ≡ false
  closed_line steps (line.Open e) closed = absurd (false≢true (sym closed))
  closed_line steps (line.Submit v s) closed = refl
  closed_line steps (line.Ack s) closed = refl
  closed_line steps (line.Read v b x) closed = refl
  closed_line steps (line.Fault v b strikes) closed = refl
  closed_line steps (line.Barrier v s) closed = refl
  closed_line steps (line.Refused v cause) closed = refl
  closed_line steps (line.Skip v k) closed = refl
  closed_line steps (line.Stage e f s) closed = refl
  closed_line steps (line.Lost e) closed = refl

  unbegun_line : (steps : List Past) (l : Line) → list_any (λ p. begins p) steps ≡ false → opens_begun steps l ≡ false
  unbegun_line steps (line.Open e) none = any_none (begins_it e) steps (λ q m. ap (λ t. t && asks_session e q.news) (none_at (λ p. begins p) steps q none m))
  unbegun_line steps (line.Submit v s) none = refl
  unbegun_line steps (line.Ack s) none = refl
  unbegun_line steps (line.Read v b x) none = refl
  unbegun_line steps (line.Fault v b strikes) none = refl
  unbegun_line steps (line.Barrier v s) none = refl
  unbegun_line steps (line.Refused v cause) none = refl
  unbegun_line steps (line.Skip v k) none = refl
  unbegun_line steps (line.Stage e f s) none = refl
  unbegun_line steps (line.Lost e) none = refl

  not_session : (p : Past) (asked : ℕ) → ((e : ℕ) → begins p ≡ true → session_asked p.news ≡ Some e → asked < e) → (e : ℕ) → e ≤ asked → begins_it e p ≡ false
  not_session p asked later e low = elim (cases_Bool (begins p)) [
    | inr miss ↦ ap (λ t. t && asks_session e p.news) miss
    | inl hit ↦ elim (cases_Bool (asks_session e p.news)) [
      | inr other ↦ ap₂ (λ a b. a && b) hit other
      | inl same ↦ (let above = later e hit (asks_session-is e p.news same) in absurd (omega (arith, above, low)))
    ]
  ]

  module _ (history : List Past) (p : Past) (ordered : IsOrdered history p) (stays : gone p ≡ false) where
    abbrev steps_since : List Past
    steps_since = since gone history

    since_more : since gone (p ∷ history) ≡ p ∷ steps_since
    since_more = since_miss gone p history stays

    -- what was opened before was opened for the same
    opened_same : list_any (λ q. list_any (λ l. opens_begun (p ∷ steps_since) l) q.lines) steps_since ≡ has_opened steps_since
    opened_same =
        any_same (λ q. list_any (λ l. opens_begun (p ∷ steps_since) l) q.lines) (λ q. list_any (λ l. opens_begun steps_since l) q.lines) steps_since
        (λ q m. any_same (λ l. opens_begun (p ∷ steps_since) l) (λ l. opens_begun steps_since l) q.lines
        (λ l n. begun_same p steps_since l (λ e is. not_session p (asked_of history) ordered.later e (ordered.low q e (among_since gone history q m) (subst (λ x. IsAmong x q.lines) is n)))))

    closed_more : opens p ≡ false → has_opened (since gone (p ∷ history)) ≡ has_opened steps_since
    closed_more closed =
        ap has_opened since_more
        ∙ ap₂ (λ a b. a || b) (any_none (λ l. opens_begun (p ∷ steps_since) l) p.lines (λ l m. closed_line (p ∷ steps_since) l (none_at is_open_line p.lines l closed m))) opened_same

    pub counts_closed : (events : List Event) → opens p ≡ false → counts events (p ∷ history) name ≡ counts events history name
    unfolding counts
    counts_closed events closed =
        ap₂ (λ a b. not (is_lied_for events (sender.Node name)) && (not a || b)) (ap (λ t. t || list_any gone history) stays) (closed_more closed)

    -- ---- a step that opens a session

    any_in : list_any gone (since begins history) ≡ true → list_any gone history ≡ true
    any_in some = elim (cases_Bool (list_any gone history)) [
      | inl hit ↦ hit
      | inr miss ↦ absurd (false≢true (sym (any_none gone (since begins history) (λ q m. none_at gone history q miss (among_since begins history q m))) ∙ some))
    ]

    pub counts_opened : (events : List Event) → opens p ≡ true → counts events (p ∷ history) name ≡ is_fresh events history name
    unfolding counts
    counts_opened events opened =
        ap (λ t. not (is_lied_for events (sender.Node name)) && t)
        (ap₂ (λ a b. not a || b) (ap (λ t. t || list_any gone history) stays) (ap has_opened since_more) ∙ by (list_any gone (since begins history)) refl)
      where
        last : OpensLast history p
        last = ordered.last opened

        by : (t : Bool) → list_any gone (since begins history) ≡ t → (not (list_any gone history) || has_opened (p ∷ steps_since)) ≡ not (list_any gone (since begins history))
        by true some =
            let none : list_any (λ q. begins q) (p ∷ steps_since) ≡ false = ap₂ (λ a b. a || b) last.unbegun (none_begun history some) in
            let unopened : has_opened (p ∷ steps_since) ≡ false = any_none (λ q. list_any (λ l. opens_begun (p ∷ steps_since) l) q.lines) (p ∷ steps_since)
            (λ q m. any_none (λ l. opens_begun (p ∷ steps_since) l) q.lines (λ l n. unbegun_line (p ∷ steps_since) l none)) in
            ap₂ (λ a b. not a || b) (any_in some) unopened ∙ sym (ap not some)
        by false none =
            let began : list_any (begins_it last.e) steps_since ≡ true =
            last_since history last.e (λ q m begun. ap (λ t. t && same_party q.step.party (sender.Node name)) (ordered.apart q (inr m) begun)) none last.last in
            let here : opens_begun (p ∷ steps_since) (line.Open last.e) ≡ true = or_right (begins_it last.e p) (list_any (begins_it last.e) steps_since) began in
            let line_here : list_any (λ l. opens_begun (p ∷ steps_since) l) p.lines ≡ true =
            ap (list_any (λ l. opens_begun (p ∷ steps_since) l)) last.only ∙ or_left (opens_begun (p ∷ steps_since) (line.Open last.e)) false here in
            let some : has_opened (p ∷ steps_since) ≡ true =
            or_left (list_any (λ l. opens_begun (p ∷ steps_since) l) p.lines) (list_any (λ q. list_any (λ l. opens_begun (p ∷ steps_since) l) q.lines) steps_since) line_here in
            ap (λ t. not (list_any gone history) || t) some ∙ (or_true (not (list_any gone history)) ∙ sym (ap not none))

    -- ---- who is fresh

    pub fresh_begun : (events : List Event) → begins p ≡ true → is_fresh events (p ∷ history) name ≡ not (is_lied_for events (sender.Node name))
    fresh_begun events begun =
        ap (λ l. not (is_lied_for events (sender.Node name)) && not (list_any gone l)) (since_hit begins p history begun) ∙ and_true (not (is_lied_for events (sender.Node name)))

    pub fresh_same : (events : List Event) → begins p ≡ false → is_fresh events (p ∷ history) name ≡ is_fresh events history name
    fresh_same events unbegun =
        ap (λ l. not (is_lied_for events (sender.Node name)) && not (list_any gone l)) (since_miss begins p history unbegun)
        ∙ ap (λ t. not (is_lied_for events (sender.Node name)) && not (t || list_any gone (since begins history))) stays

  -- ---- a step that replaces it

  pub counts_gone : (events : List Event) (history : List Past) (p : Past) → gone p ≡ true → counts events (p ∷ history) name ≡ false
  unfolding counts
  counts_gone events history p here =
      ap₂ (λ a b. not (is_lied_for events (sender.Node name)) && (not a || b)) (ap (λ t. t || list_any gone history) here) (ap has_opened (since_hit gone p history here))
      ∙ and_false (not (is_lied_for events (sender.Node name)))

  pub fresh_gone : (events : List Event) (history : List Past) (p : Past) → gone p ≡ true → begins p ≡ false → is_fresh events (p ∷ history) name ≡ false
  fresh_gone events history p here unbegun =
      ap (λ l. not (is_lied_for events (sender.Node name)) && not (list_any gone l)) (since_miss begins p history unbegun)
      ∙ (ap (λ t. not (is_lied_for events (sender.Node name)) && not (t || list_any gone (since begins history))) here ∙ and_false (not (is_lied_for events (sender.Node name))))

-- ---- nodes by number

module _ (shape : Shape) (events : List Event) (history : List Past) (p : Past) (ordered : IsOrdered history p) where
  -- a node that isn't replaced in the step
  pub counts_then : (r : ℕ) → replaces (node_of shape r) p ≡ false → counts_as shape events (p ∷ history) r ≡ (if opens p then fresh_as shape events history r else counts_as shape events history r)
  counts_then r stays = elim (cases_Bool (opens p)) [
    | inl opened ↦
        ap (λ t. nat_lt (region_of_node shape r) (regions shape) && t) (counts_opened (node_of shape r) history p ordered stays events opened)
        ∙ sym (cond-true (opens p) (fresh_as shape events history r) (counts_as shape events history r) opened)
    | inr closed ↦
        ap (λ t. nat_lt (region_of_node shape r) (regions shape) && t) (counts_closed (node_of shape r) history p ordered stays events closed)
        ∙ sym (cond-false (opens p) (fresh_as shape events history r) (counts_as shape events history r) closed)
  ]

  pub fresh_then : (r : ℕ) → replaces (node_of shape r) p ≡ false → fresh_as shape events (p ∷ history) r ≡ (if begins p then is_honest shape events r else fresh_as shape events history r)
  fresh_then r stays = elim (cases_Bool (begins p)) [
    | inl begun ↦
        ap (λ t. nat_lt (region_of_node shape r) (regions shape) && t) (fresh_begun (node_of shape r) history p ordered stays events begun)
        ∙ sym (cond-true (begins p) (is_honest shape events r) (fresh_as shape events history r) begun)
    | inr unbegun ↦
        ap (λ t. nat_lt (region_of_node shape r) (regions shape) && t) (fresh_same (node_of shape r) history p ordered stays events unbegun)
        ∙ sym (cond-false (begins p) (is_honest shape events r) (fresh_as shape events history r) unbegun)
  ]
