-- What holds of each ask with a number of the head that the client has sent, whatever it does next: of each request in the waiting
-- line whose event the number tells it has the session served, and asks for one of that request's blocks.
use Rattle.std.proofs.Common.{◌≡◌, ◌∙◌, inl, inr, ℕ, ◌+◌, ◌*◌, ◌^◌, ◌<◌, ◌≤◌, List, [], refl, sym, ap, subst, arith, le_refl}
use Rattle.salus_types.specs.Volume.{Shape}
use Rattle.salus_message.specs.declared.small.Ask.{Ask}
use Rattle.schedule_text.specs.declared.schedule.Volume.{Volume}
use Rattle.schedule_text.specs.declared.schedule.Event.{Event}
use Rattle.merkle_region.specs.Tree.{IsAmong}
use Rattle.salus_model.specs.Judge.{Judge}
use Rattle.salus_model.specs.Hearing.{News, Asks, Says, Crashes, Silence, Past}
use Rattle.salus_model.specs.Waiting.{Taken, Question, questions_of}
use Rattle.client_rules.specs.State as state
use Rattle.client_rules.specs.State.{Open}
use Rattle.client_rules.specs.Rules.{told}
use Rattle.law_lines.specs.Mirror.{MirrorsServing}
use Rattle.law_lines.specs.Mirrors.{Mirrors}
use Rattle.law_lines.specs.Ready.{AsksFit, event_after}
use Rattle.law_reads.proofs.Away.{IsAway}
use Rattle.law_reads.proofs.Mirrored.{number_below}
use Rattle.law_claimed.proofs.Begun.{away_told}
use Rattle.law_asked.proofs.Serves.{IsAskBy, IsOwnAsk, IsAsking, GoesOn, told_on}
use Rattle.law_complete.proofs.Heads.{IsOfHead, one_question, below_high, one_event, line_between, of_head}

-- ---- where a client begins to serve

-- no request waits, and nothing is asked
abbrev pub HasNothing : state.Client → Type 0
HasNothing (state.Serves d) = (d.line ≡ []) × (d.asked ≡ [])
HasNothing state.Closed = Unit {0}
HasNothing (state.Gathers g) = Unit {0}
HasNothing (state.Fetches f) = Unit {0}
HasNothing (state.Stages b) = Unit {0}
HasNothing (state.Switches b) = Unit {0}

away_nothing : (c : state.Client) → IsAway c → HasNothing c
away_nothing (state.Serves c) away = absurd away
away_nothing state.Closed away = tt
away_nothing (state.Gathers g) away = tt
away_nothing (state.Fetches f) away = tt
away_nothing (state.Stages b) away = tt
away_nothing (state.Switches b) away = tt

pub begins_nothing : (volume : Volume) (c : state.Client) → IsAway c → (v : ℕ) (x : News) → HasNothing (told volume c v x).client
begins_nothing volume c away v x = away_told volume (λ t. HasNothing t.client) (λ t off. away_nothing t.client off) c away (λ b is. (refl, refl)) v x

-- ---- an ask

-- the number tells an event below that
pub record HasEvent (n number : ℕ) : Type 0 where
  pub j : ℕ
  pub e : ℕ
  pub is : number ≡ 2 ^ 32 * j + e
  pub below : e < n

abbrev pub IsOfLine : Shape → state.Client → Ask → Type 0
IsOfLine shape (state.Serves d) a =
    (r : Taken) → IsAmong r d.line → (j : ℕ) → a.read ≡ 2 ^ 32 * j + r.event
    → (a.session ≡ d.session) × IsAmong (record { event = r.event; number = a.read; block = a.block }) (questions_of shape r.event r.request)
IsOfLine shape other a = Unit {0}

pub record HeadFits (shape : Shape) (n : ℕ) (c : state.Client) (a : Ask) : Type 0 where
  pub event : 2 ^ 32 ≤ a.read → HasEvent n a.read
  pub own : 2 ^ 32 ≤ a.read → IsOfLine shape c a

-- ---- a step

up_events : (events : List Event) (n m v : ℕ) (x : News) → AsksFit events n m v x → n ≤ event_after n v x
up_events events n m v (Asks r) fits = let first : n ≤ v = fits.0 in omega (arith, first)
up_events events n m v (Says name msg) fits = le_refl n
up_events events n m v Crashes fits = le_refl n
up_events events n m v Silence fits = le_refl n

-- what is asked now comes at an event from n on
new_event : (events : List Event) (n m v : ℕ) (x : News) → AsksFit events n m v x → IsAsking x → (n ≤ v) × (v < 2 ^ 32)
new_event events n m v (Asks r) fits asks = (fits.0, fits.1)
new_event events n m v (Says name msg) fits asks = absurd asks
new_event events n m v Crashes fits asks = absurd asks
new_event events n m v Silence fits asks = absurd asks

module _ (volume : Volume) (events : List Event) (n m v : ℕ) (x : News) (fits : AsksFit events n m v x) (a : Ask) where
  abbrev shape : Shape
  shape = volume.geometry

  abbrev next_n : ℕ
  next_n = event_after n v x

  event_then : (2 ^ 32 ≤ a.read → HasEvent n a.read) → 2 ^ 32 ≤ a.read → HasEvent next_n a.read
  event_then was high =
      let before : HasEvent n a.read = was high in
      let low : before.e < n = before.below in
      let up : n ≤ next_n = up_events events n m v x fits in
      record { j = before.j; e = before.e; is = before.is; below = omega (arith, low, up) }

  -- no ask that was sent before is of a request that is new
  not_new : HasEvent n a.read → IsAsking x → (r : Taken) → r.event ≡ v → (j : ℕ) → a.read ≡ 2 ^ 32 * j + r.event → ⊥
  not_new before asks r is j same =
      let at = new_event events n m v x fits asks in
      let first : n ≤ v = at.0 in
      let small : v < 2 ^ 32 = at.1 in
      let low : before.e < n = before.below in
      let number : a.read ≡ 2 ^ 32 * before.j + before.e = before.is in
      absurd (omega (arith, first, small, low, number, same, is))

  serving_then : (s : state.Serving) → HeadFits shape n (state.Serves s) a → (t : state.Client) → GoesOn volume s v x t → HeadFits shape next_n t a
  serving_then s was (state.Serves d) goes = record {
    event = event_then was.event;
    own = λ high r among j same. elim (goes.line r among) [
      | inl old ↦ (let of = was.own high r old j same in (of.0 ∙ sym goes.session, of.1))
      | inr new ↦ absurd (not_new (was.event high) new.0 r new.1 j same)
    ];
  }
  serving_then s was state.Closed goes = record { event = event_then was.event; own = λ high. tt }
  serving_then s was (state.Fetches f) goes = record { event = event_then was.event; own = λ high. tt }
  serving_then s was (state.Gathers g) goes = absurd goes
  serving_then s was (state.Stages b) goes = absurd goes
  serving_then s was (state.Switches b) goes = absurd goes

  away_then : (c : state.Client) → HeadFits shape n c a → (t : state.Client) → HasNothing t → HeadFits shape next_n t a
  away_then c was (state.Serves d) nothing = record { event = event_then was.event; own = λ high r among. absurd (subst (λ (l : List Taken). IsAmong r l) nothing.0 among) }
  away_then c was state.Closed nothing = record { event = event_then was.event; own = λ high. tt }
  away_then c was (state.Gathers g) nothing = record { event = event_then was.event; own = λ high. tt }
  away_then c was (state.Fetches f) nothing = record { event = event_then was.event; own = λ high. tt }
  away_then c was (state.Stages b) nothing = record { event = event_then was.event; own = λ high. tt }
  away_then c was (state.Switches b) nothing = record { event = event_then was.event; own = λ high. tt }

  -- An ask that was sent before a step still fits after it.
  pub old_fits : (c : state.Client) → HeadFits shape n c a → HeadFits shape next_n (told volume c v x).client a
  old_fits (state.Serves s) was = serving_then s was (told volume (state.Serves s) v x).client (told_on volume s v x).goes
  old_fits state.Closed was = away_then state.Closed was (told volume state.Closed v x).client (begins_nothing volume state.Closed tt v x)
  old_fits (state.Gathers g) was = away_then (state.Gathers g) was (told volume (state.Gathers g) v x).client (begins_nothing volume (state.Gathers g) tt v x)
  old_fits (state.Fetches f) was = away_then (state.Fetches f) was (told volume (state.Fetches f) v x).client (begins_nothing volume (state.Fetches f) tt v x)
  old_fits (state.Stages b) was = away_then (state.Stages b) was (told volume (state.Stages b) v x).client (begins_nothing volume (state.Stages b) tt v x)
  old_fits (state.Switches b) was = away_then (state.Switches b) was (told volume (state.Switches b) v x).client (begins_nothing volume (state.Switches b) tt v x)

-- ---- a client that serves

module _ (shape : Shape) (history : List Past) (judge : Judge) (n : ℕ) (d : state.Serving) (mirrors : MirrorsServing shape history judge n d) where
  head_among : (q : Question) (head : IsOfHead shape d.line q) → IsAmong head.w d.line
  head_among q head = subst (λ (l : List Taken). IsAmong head.w l) (sym head.is) (inl refl)

  -- an ask with the number of a question of the head that is asked is its own
  pub own_ask : (o : Open) → IsAmong o d.asked → (a : Ask) → HeadFits shape n (state.Serves d) a → a.read ≡ o.question.number → (a.session ≡ d.session) × (a.block ≡ o.question.block)
  own_ask o o_in a fits same =
      let head = of_head shape history judge n d mirrors o o_in in
      let up : 1 ≤ head.numbered.i = head.numbered.up in
      let number : o.question.number ≡ 2 ^ 32 * head.numbered.i + head.w.event = head.numbered.number in
      let high : 2 ^ 32 ≤ a.read = omega (arith, up, number, same) in
      let found = fits.own high head.w (head_among o.question head) head.numbered.i (same ∙ number) in (
        found.0,
        ap (λ (q : Question). q.block) (one_question shape head.w.event head.w.request (record { event = head.w.event; number = a.read; block = a.block }) o.question found.1 head.among same),
      )

  module _ (small : n ≤ 2 ^ 32) (a : Ask) (by : IsAskBy shape d a) where
    read : a.read ≡ by.q.number
    read = ap (λ (x : Ask). x.read) by.is

    -- an ask of a read has a low number
    head_of : 2 ^ 32 ≤ a.read → IsOfHead shape d.line by.q
    head_of high = elim by.asked [
      | inl of ↦
          let below : of.0.question.number < n = number_below shape history judge n d mirrors of.0 of.1 in
          let number : of.0.question.number ≡ a.read = ap (λ (q : Question). q.number) of.2 ∙ sym read in
          absurd (omega (arith, high, below, number, small))
      | inr of ↦ subst (λ (q : Question). IsOfHead shape d.line q) of.2 (of_head shape history judge n d mirrors of.0 of.1)
    ]

    same_question : (head : IsOfHead shape d.line by.q) → by.q ≡ record { event = head.w.event; number = a.read; block = a.block }
    same_question head =
        let events : by.q.event ≡ head.w.event = head.numbered.event in
        let numbers : by.q.number ≡ a.read = sym read in
        let blocks : by.q.block ≡ a.block = ap (λ (x : Ask). x.block) (sym by.is) in
        λ i. record { event = events i; number = numbers i; block = blocks i }

    new_own : (head : IsOfHead shape d.line by.q) → IsOfLine shape (state.Serves d) a
    new_own head = λ r among j same.
        let between = line_between shape history judge n d mirrors in
        let mine : r.event < n = below_high 0 n d.line r between among in
        let its : head.w.event < n = below_high 0 n d.line head.w between (head_among by.q head) in
        let number : a.read ≡ 2 ^ 32 * head.numbered.i + head.w.event = read ∙ head.numbered.number in
        let one : r ≡ head.w = one_event 0 n d.line r head.w between among (head_among by.q head) (omega (arith, mine, its, number, same, small)) in (
          ap (λ (x : Ask). x.session) by.is,
          subst (λ (y : Taken). IsAmong (record { event = y.event; number = a.read; block = a.block }) (questions_of shape y.event y.request)) (sym one)
              (subst (λ (q : Question). IsAmong q (questions_of shape head.w.event head.w.request)) (same_question head) head.among),
        )

    -- Where it is sent it fits.
    pub new_fits : HeadFits shape n (state.Serves d) a
    new_fits = record {
      event = λ high.
          (let head = head_of high in
          record {
            j = head.numbered.i;
            e = head.w.event;
            is = read ∙ head.numbered.number;
            below = below_high 0 n d.line head.w (line_between shape history judge n d mirrors) (head_among by.q head);
          });
      own = λ high. new_own (head_of high);
    }

-- so of any client
pub fits_by : (volume : Volume) (history : List Past) (judge : Judge) (n : ℕ) → n ≤ 2 ^ 32 → (d : state.Client) → Mirrors volume history judge n d → (a : Ask) → IsOwnAsk volume.geometry d a → HeadFits volume.geometry n d a
fits_by volume history judge n small (state.Serves d) mirrors a own = new_fits volume.geometry history judge n d mirrors small a own
fits_by volume history judge n small state.Closed mirrors a own = absurd own
fits_by volume history judge n small (state.Gathers g) mirrors a own = absurd own
fits_by volume history judge n small (state.Fetches f) mirrors a own = absurd own
fits_by volume history judge n small (state.Stages b) mirrors a own = absurd own
fits_by volume history judge n small (state.Switches b) mirrors a own = absurd own
