-- Batches that are acknowledged one after the other, each with the barriers that are due after it.
use Rattle.std.proofs.Common.{◌≡◌, ◌∙◌, ℕ, ◌+◌, ◌<◌, ◌≤◌, Bool, true, false, List, [], ◌∷◌, ◌++◌, length, drop, map, Some, None, refl, sym, ap, ap₂, subst, arith, append_assoc, append-nil}
use Rattle.std.specs.Prelude.{All, if◌then◌else◌}
use Rattle.std.proofs.lemmas.List.Elements.{All-drop}
use Rattle.salus_types.specs.Volume.{Shape}
use Rattle.salus_types.specs.declared.names.NodeName.{NodeName}
use Rattle.salus_types.specs.declared.records.Record.{Record}
use Rattle.printed_lines.specs.declared.line.Line.{Line}
use Rattle.printed_lines.specs.declared.line.Line.TheVariants as line
use Rattle.client_tag.specs.Ranges.{IsRecord}
use Rattle.unanimous_certificate.specs.Kept.{claims_in}
use Rattle.replica_rules.specs.Voting.{all_claim}
use Rattle.client_rules.specs.State.{Serving, Unacked}
use Rattle.client_rules.specs.Serving.{Acked, acks, acked_one, acked_lines, claimed}
use Rattle.client_window.specs.Window.{KeptWindow}
use Rattle.client_window.specs.Answering.{ack_among, due_ack, due_lines, still_waiting, IsFirstAck, NoAck}
use Rattle.client_window.specs.Standing.{StandsFor as WindowStandsFor}
use Rattle.client_pipeline.specs.Pipeline.{KeptPipeline, IsPipeline, Stays}
use Rattle.client_pipeline.specs.Standing.{StandsFor}

-- ---- barriers that are answered

-- some of the barriers that were due are answered
pub record AreAnswered (first : KeptWindow) (before : List Line) (w : KeptWindow) (lines : List Line) : Type 0 where
  pub lines_are : lines ++ due_lines first.acked w.barriers ≡ before ++ due_lines first.acked first.barriers
  pub waiting : still_waiting first.acked w.barriers ≡ still_waiting first.acked first.barriers
  pub others : w ≡ record first { barriers = w.barriers }
  pub fewer : length w.barriers ≤ length first.barriers

-- ---- batches that are acknowledged

-- the pipeline stands for a client that goes on to what the first one acknowledges, with the lines so far
pub record IsOnTheWay (shape : Shape) (first : Serving) (before : List Line) (p : KeptPipeline) (lines : List Line) (c : Serving) : Type 0 where
  pub stands : StandsFor p c
  pub client : (acks shape c c.unacked).client ≡ (acks shape first first.unacked).client
  pub lines_are : lines ++ (acks shape c c.unacked).lines ≡ before ++ (acks shape first first.unacked).lines

-- what is true after some batches are acknowledged
pub record IsUnderway (old : KeptPipeline) (node : NodeName) (front : ℕ) (before : List Line) (p : KeptPipeline) (lines : List Line) : Type 0 where
  pub stays : Stays old p
  pub waiting : length p.window.barriers ≤ length old.window.barriers
  pub records : IsPipeline p
  pub way : (c : Serving) → StandsFor old c → (d : Serving) × IsOnTheWay old.window.shape (claimed c node front) before p lines d

-- the first batch is due only where there is one
pub some_left : (w : KeptWindow) (s : ℕ) → due_ack w ≡ Some s → length (drop 1 w.leaders) < length w.leaders
some_left w s due = some w.leaders due
  where
    some : (leaders : List ℕ) → ack_among w.shape (claims_in w.claims) w.acked leaders ≡ Some s → length (drop 1 leaders) < length leaders
    some [] is = absurd (cc)
    some (l ∷ ls) is = omega arith

-- it is the one after the front
one_above : (w : KeptWindow) (s : ℕ) → due_ack w ≡ Some s → s ≡ w.acked + 1
one_above w s due = one w.leaders due
  where
    some_of : (b : Bool) → (if b then Some (w.acked + 1) else None) ≡ Some s → s ≡ w.acked + 1
    some_of true is = let same : w.acked + 1 ≡ s = cc in sym same
    some_of false is = absurd (cc)

    one : (leaders : List ℕ) → ack_among w.shape (claims_in w.claims) w.acked leaders ≡ Some s → s ≡ w.acked + 1
    one [] is = absurd (cc)
    one (l ∷ ls) is = some_of (all_claim w.shape (claims_in w.claims) l (w.acked + 1)) is

-- what an acknowledgement changes
abbrev raised_to : KeptWindow → ℕ → KeptWindow
raised_to w s = record w { acked = s; leaders = drop 1 w.leaders }

abbrev after_ack : KeptWindow → ℕ → KeptWindow
after_ack w s = record w { acked = s; leaders = drop 1 w.leaders; barriers = still_waiting s w.barriers }

first_left : (us : List Unacked) (first : Unacked) (left : List Unacked) → us ≡ first ∷ left
    → (drop 1 (map (λ (u : Unacked). u.leader) us) ≡ map (λ (u : Unacked). u.leader) left) × (drop 1 (map (λ (u : Unacked). u.parts) us) ≡ map (λ (u : Unacked). u.parts) left)
first_left us first left are = (ap (λ l. drop 1 (map (λ (u : Unacked). u.leader) l)) are, ap (λ l. drop 1 (map (λ (u : Unacked). u.parts) l)) are)

-- the window after it stands for the client after it
stands_after : (shape : Shape) (w : KeptWindow) (c : Serving) (s : ℕ) (is : IsFirstAck shape c s) → WindowStandsFor w c → WindowStandsFor (after_ack w s) (acked_one c is.left)
stands_after shape w c s is stands = record {
  session = stands.session;
  base = stands.base;
  last = stands.last;
  acked = is.number;
  numbers = stands.numbers;
  roots = stands.roots;
  leader = stands.leader;
  leaders = ap (drop 1) stands.leaders ∙ (first_left c.unacked is.first is.left is.unacked).0;
  claims = stands.claims;
  barriers = ap₂ still_waiting is.number stands.barriers;
}

module _ (old : KeptPipeline) (node : NodeName) (front : ℕ) (before : List Line) (p : KeptPipeline) (lines : List Line) (so_far : IsUnderway old node front before p lines) where
  -- ---- one batch more
  module _ (s : ℕ) (w1 w2 : KeptWindow) (parts : List (List Record)) (lines1 lines2 : List Line) (due : due_ack p.window ≡ Some s) (raised : w1 ≡ raised_to p.window s) (others : w2 ≡ record w1 { barriers = w2.barriers }) where
    pub raised_stays : Stays old (record { window = w2; parts = parts; key = p.key })
    raised_stays = record {
      shape = ap (λ (k : KeptWindow). k.shape) others ∙ ap (λ (k : KeptWindow). k.shape) raised ∙ so_far.stays.shape;
      session = ap (λ (k : KeptWindow). k.session) others ∙ ap (λ (k : KeptWindow). k.session) raised ∙ so_far.stays.session;
      last = ap (λ (k : KeptWindow). k.last) others ∙ ap (λ (k : KeptWindow). k.last) raised ∙ so_far.stays.last;
      acked =
          let here : w2.acked ≡ s = ap (λ (k : KeptWindow). k.acked) others ∙ ap (λ (k : KeptWindow). k.acked) raised in
          omega (arith, here, one_above p.window s due, so_far.stays.acked);
      key = so_far.stays.key;
    }

    pub raised_waiting : length w2.barriers ≤ length w1.barriers → length w2.barriers ≤ length old.window.barriers
    raised_waiting fewer = let same : length w1.barriers ≡ length p.window.barriers = ap (λ (k : KeptWindow). length k.barriers) raised in omega (arith, fewer, so_far.waiting)

    pub raised_records : parts ≡ drop 1 p.parts → All (All IsRecord) parts
    raised_records dropped = subst (All (All IsRecord)) (sym dropped) (All-drop (All IsRecord) 1 p.parts so_far.records)

    module _ (dropped : parts ≡ drop 1 p.parts) (first : (c : Serving) → WindowStandsFor p.window c → IsFirstAck p.window.shape c s) (acked : lines1 ≡ lines ++ line.Ack s ∷ [])
        (fewer : length w2.barriers ≤ length w1.barriers) (answered : lines2 ≡ lines1 ++ due_lines w1.acked w1.barriers) (waiting : w2.barriers ≡ still_waiting w1.acked w1.barriers) where
      is_after : w2 ≡ after_ack p.window s
      is_after =
          let bars : w2.barriers ≡ still_waiting s p.window.barriers = waiting ∙ ap (λ (k : KeptWindow). still_waiting k.acked k.barriers) raised in
          others ∙ ap₂ (λ (k : KeptWindow) bs. record k { barriers = bs }) raised bars

      lines_on : (d : Serving) → WindowStandsFor p.window d → s ≡ d.acked + 1 → lines2 ≡ lines ++ acked_lines d
      lines_on d stands number =
          answered ∙ ap (λ (k : KeptWindow). lines1 ++ due_lines k.acked k.barriers) raised ∙ ap (λ l. l ++ due_lines s p.window.barriers) acked
          ∙ append_assoc lines (line.Ack s ∷ []) (due_lines s p.window.barriers)
          ∙ ap₂ (λ n bs. lines ++ line.Ack n ∷ due_lines n bs) number stands.barriers

      way_on : (first_client d : Serving) → IsOnTheWay old.window.shape first_client before p lines d
          → (e : Serving) × IsOnTheWay old.window.shape first_client before (record { window = w2; parts = parts; key = p.key }) lines2 e
      way_on first_client d on =
          let is : IsFirstAck old.window.shape d s = subst (λ shape. IsFirstAck shape d s) so_far.stays.shape (first d on.stands.window) in (
            acked_one d is.left,
            record {
              stands = record {
                window = subst (λ k. WindowStandsFor k (acked_one d is.left)) (sym is_after) (stands_after old.window.shape p.window d s is on.stands.window);
                parts = dropped ∙ ap (drop 1) on.stands.parts ∙ (first_left d.unacked is.first is.left is.unacked).1;
              };
              client = sym is.client ∙ on.client;
              lines_are =
                  ap (λ l. l ++ (acks old.window.shape (acked_one d is.left) is.left).lines) (lines_on d on.stands.window is.number)
                  ∙ append_assoc lines (acked_lines d) (acks old.window.shape (acked_one d is.left) is.left).lines
                  ∙ ap (λ l. lines ++ l) (sym is.lines) ∙ on.lines_are;
            },
          )

      pub goes_on : IsUnderway old node front before (record { window = w2; parts = parts; key = p.key }) lines2
      goes_on = record {
        stays = raised_stays;
        waiting = raised_waiting fewer;
        records = raised_records dropped;
        way = λ c stands. way_on (claimed c node front) (so_far.way c stands).0 (so_far.way c stands).1;
      }

  -- ---- no batch more
  module _ (w1 : KeptWindow) (parts : List (List Record)) (same : w1 ≡ p.window) (kept : parts ≡ p.parts) (none : (c : Serving) → WindowStandsFor p.window c → NoAck p.window.shape c) where
    abbrev last_one : KeptPipeline
    last_one = record { window = w1; parts = parts; key = p.key }

    is_last : last_one ≡ p
    is_last = ap₂ (λ (k : KeptWindow) ps. record p { window = k; parts = ps }) same kept

    none_here : (d : Serving) → StandsFor p d → NoAck old.window.shape d
    none_here d stands = subst (λ shape. NoAck shape d) so_far.stays.shape (none d stands.window)

    pub all_stands : (c : Serving) → StandsFor old c → StandsFor last_one (acks old.window.shape (claimed c node front) c.unacked).client
    all_stands c stands =
        let d = (so_far.way c stands).0 in
        let on = (so_far.way c stands).1 in
        subst (λ (k : KeptPipeline). StandsFor k (acks old.window.shape (claimed c node front) c.unacked).client) (sym is_last)
        (subst (StandsFor p) (sym (ap (λ (a : Acked). a.client) (none_here d on.stands)) ∙ on.client) on.stands)

    pub all_lines : (c : Serving) → StandsFor old c → lines ≡ before ++ (acks old.window.shape (claimed c node front) c.unacked).lines
    all_lines c stands =
        let d = (so_far.way c stands).0 in
        let on = (so_far.way c stands).1 in
        sym (ap (λ (a : Acked). lines ++ a.lines) (none_here d on.stands) ∙ append-nil lines) ∙ on.lines_are

    pub all_stays : Stays old last_one
    all_stays = subst (Stays old) (sym is_last) so_far.stays

    pub all_waiting : length w1.barriers ≤ length old.window.barriers
    all_waiting = subst (λ (k : KeptWindow). length k.barriers ≤ length old.window.barriers) (sym same) so_far.waiting

    pub all_records : All (All IsRecord) parts
    all_records = subst (All (All IsRecord)) (sym kept) so_far.records

-- ---- before the first

pub underway : (old : KeptPipeline) (node : NodeName) (front : ℕ) (before : List Line) (inside : KeptPipeline) (w : KeptWindow) → inside ≡ old → IsPipeline inside
    → w ≡ record inside.window { claims = w.claims } → ((c : Serving) → WindowStandsFor inside.window c → WindowStandsFor w (claimed c node front))
    → IsUnderway old node front before (record { window = w; parts = inside.parts; key = inside.key }) before
underway old node front before inside w same records others stands = record {
  stays = subst (λ k. Stays k (record { window = w; parts = inside.parts; key = inside.key })) same (record {
    shape = ap (λ (k : KeptWindow). k.shape) others;
    session = ap (λ (k : KeptWindow). k.session) others;
    last = ap (λ (k : KeptWindow). k.last) others;
    acked = let kept : w.acked ≡ inside.window.acked = ap (λ (k : KeptWindow). k.acked) others in omega (arith, kept);
    key = refl;
  });
  waiting =
      let kept : length w.barriers ≡ length old.window.barriers = ap (λ (k : KeptWindow). length k.barriers) others ∙ ap (λ (k : KeptPipeline). length k.window.barriers) same in
      omega (arith, kept);
  records = records;
  way = λ c is.
      let here : StandsFor inside c = subst (λ k. StandsFor k c) (sym same) is in
      (claimed c node front, record { stands = record { window = stands c here.window; parts = here.parts }; client = refl; lines_are = refl });
}
