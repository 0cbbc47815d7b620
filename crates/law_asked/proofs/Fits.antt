-- What holds of each ask that the client has sent, whatever it does next: of an open read of that number it has session and block,
-- and in the session served it isn't above the present number.
use Rattle.std.proofs.Common.{◌≡◌, ◌∙◌, ◌⊎◌, inl, inr, ⊎_elim, ℕ, ◌+◌, ◌*◌, ◌^◌, ◌<◌, ◌≤◌, not, true, if◌then◌else◌, List, [], ◌∷◌, refl, sym, ap, subst, arith, le_refl, le_trans}
use Rattle.std.specs.Prelude.{filter}
use Rattle.salus_types.specs.Volume.{Shape, regions}
use Rattle.salus_message.specs.declared.small.Ask.{Ask}
use Rattle.salus_message.specs.Ranges.{AskedWidths}
use Rattle.schedule_text.specs.declared.schedule.Volume.{Volume}
use Rattle.schedule_text.specs.declared.schedule.Event.{Event}
use Rattle.merkle_region.specs.Tree.{IsAmong}
use Rattle.volume_model.specs.Contents.{region_of}
use Rattle.volume_model.specs.Parts.{blocks_of}
use Rattle.salus_model.specs.declared.trace.Request.{Request}
use Rattle.salus_model.specs.declared.trace.Request.TheVariants as request
use Rattle.salus_model.specs.Judge.{Judge, last_number}
use Rattle.salus_model.specs.Hearing.{News, Asks, Says, Crashes, Silence, Past}
use Rattle.salus_model.specs.Waiting.{Taken, is_write, left_of, live, Question, questions_from, questions_of}
use Rattle.salus_model.specs.Answering.{present_number, is_known}
use Rattle.client_rules.specs.State as state
use Rattle.client_rules.specs.State.{Open}
use Rattle.client_rules.specs.Tables.{number_at, line_of, read_question, read_questions, head_questions}
use Rattle.client_rules.specs.Rules.{told}
use Rattle.list_lemmas.proofs.Members.{among_map, among_filter}
use Rattle.list_lemmas.proofs.Tests.{by_test}
use Rattle.merkle_region.proofs.Membership.{among_right, among_either}
use Rattle.law_lemmas.proofs.Numbered.{IsSized, numbered}
use Rattle.law_lemmas.proofs.Settled.{EachKnown, now-known}
use Rattle.law_lines.specs.Mirror.{Between, open_of, MirrorsServing}
use Rattle.law_lines.specs.Mirrors.{Holds}
use Rattle.law_lines.specs.Ready.{AsksFit, event_after, session_after}
use Rattle.law_lines.proofs.Ordered.{left-line, head-writes}
use Rattle.law_reads.specs.Serving.{AreSmall}
use Rattle.law_reads.proofs.Away.{IsAway}
use Rattle.law_reads.proofs.Mirrored.{own_numbers, number_below}
use Rattle.law_asked.proofs.Serves.{IsAskedIn, IsAskBy, AllSentBy, IsAsking, IsLined, IsReassigning, Goes, GoesOn, told_on}
use Rattle.law_asked.proofs.Opens.{bound, KeepsOwn, IsLater, Opens, opens_on}

-- ---- numbers

number_is : (v : ℕ) (r : Request) (q : Question) → IsAmong q (read_question v r) → q.number ≡ v
number_is v (request.Read b) q (inl is) = ap (λ (x : Question). x.number) is
number_is v (request.Read b) q (inr none) = absurd none
number_is v (request.Write batch) q among = absurd among
number_is v request.Barrier q among = absurd among
number_is v (request.Restart e) q among = absurd among
number_is v (request.Reassign e g) q among = absurd among

above_low : (low n : ℕ) (rs : List Taken) (r : Taken) → Between low rs n → IsAmong r rs → low < r.event
unfolding Between
above_low low n [] r between among = absurd among
above_low low n (x ∷ rs) r between (inl same) = subst (λ (y : Taken). low < y.event) (sym same) between.0
above_low low n (x ∷ rs) r between (inr among) =
    let first : low < x.event = between.0 in
    let rest : x.event < r.event = above_low x.event n rs r between.1 among in
    omega (arith, first, rest)

-- the reads that have left have lower numbers than the events of the waiting line
left_below : (low n : ℕ) (rs : List Taken) (q : Question) (r : Taken) → Between low rs n → IsAmong q (read_questions (left_of rs)) → IsAmong r (line_of rs) → q.number < r.event
unfolding Between left_of line_of
left_below low n [] q r between = λ left among. absurd left
left_below low n (x ∷ rs) q r between =
    by_test (λ t. IsAmong q (read_questions (if t then [] else x ∷ left_of rs)) → IsAmong r (if t then x ∷ rs else line_of rs) → q.number < r.event) (is_write x.request)
    (λ _ left among. absurd left)
    (λ _ left among. ⊎_elim (λ (here : IsAmong q (read_question x.event x.request)).
    let is : q.number ≡ x.event = number_is x.event x.request q here in
    let up : x.event < r.event = above_low x.event n rs r between.1 (subst (λ (l : List Taken). IsAmong r l) (left-line rs) (among_right r (left_of rs) (line_of rs) among)) in
    omega (arith, is, up))
    (λ (behind : IsAmong q (read_questions (left_of rs))). left_below x.event n rs q r between.1 behind among)
    (among_either q (read_question x.event x.request) (read_questions (left_of rs)) left))

from_high : (v j : ℕ) (bs : List ℕ) (q : Question) → 1 ≤ j → IsAmong q (questions_from v j bs) → 2 ^ 32 ≤ q.number
unfolding questions_from
from_high v j [] q up among = absurd among
from_high v j (b ∷ bs) q up (inl same) = let is : q.number ≡ 2 ^ 32 * j + v = ap (λ (x : Question). x.number) same in omega (arith, is, up)
from_high v j (b ∷ bs) q up (inr among) = from_high v (j + 1) bs q (omega (arith, up)) among

write_high : (shape : Shape) (v : ℕ) (r : Request) (q : Question) → is_write r ≡ true → IsAmong q (questions_of shape v r) → 2 ^ 32 ≤ q.number
write_high shape v (request.Write batch) q is among = from_high v 1 (blocks_of shape batch) q (omega arith) among
write_high shape v (request.Read b) q is among = absurd (cc)
write_high shape v request.Barrier q is among = absurd among
write_high shape v (request.Restart e) q is among = absurd among
write_high shape v (request.Reassign e g) q is among = absurd among

-- the head's questions have no number of a read
head_high : (shape : Shape) (rs : List Taken) (line : List Taken) (q : Question) → line_of rs ≡ line → IsAmong q (head_questions shape line) → 2 ^ 32 ≤ q.number
head_high shape rs [] q is among = absurd among
head_high shape rs (w ∷ behind) q is among = write_high shape w.event w.request q (head-writes rs w behind is) among

-- ---- an ask

module _ (shape : Shape) where
  pub record ServesFit (d : state.Serving) (a : Ask) : Type 0 where
    pub at : a.session ≡ d.session → region_of shape a.block < regions shape → a.at ≤ number_at d (region_of shape a.block)
    pub of_read : a.read < 2 ^ 32 → (o : Open) → IsAmong o d.reads → o.question.number ≡ a.read → (a.session ≡ d.session) × (a.block ≡ o.question.block)
    pub unlined : a.read < 2 ^ 32 → (r : Taken) → IsAmong r d.line → r.event ≡ a.read → ⊥

  abbrev pub OwnFits : state.Client → Ask → Type 0
  OwnFits (state.Serves d) a = ServesFit d a
  OwnFits other a = Unit {0}

  -- an ask that was sent before event n and before session m is asked for
  pub record AskFits (n m : ℕ) (c : state.Client) (a : Ask) : Type 0 where
    pub small : AreSmall a.session a.read a.block
    pub below : a.read < 2 ^ 32 → a.read < n
    pub bounded : a.session < bound m c
    pub own : OwnFits c a

-- ---- a step

up_events : (events : List Event) (n m v : ℕ) (x : News) → AsksFit events n m v x → n ≤ event_after n v x
up_events events n m v (Asks r) fits = let first : n ≤ v = fits.0 in omega (arith, first)
up_events events n m v (Says name msg) fits = le_refl n
up_events events n m v Crashes fits = le_refl n
up_events events n m v Silence fits = le_refl n

up_sessions : (events : List Event) (n m v : ℕ) (x : News) → AsksFit events n m v x → m ≤ session_after m x
up_sessions events n m v (Asks (request.Restart e)) fits = let first : m ≤ e = fits.2 in omega (arith, first)
up_sessions events n m v (Asks (request.Reassign e g)) fits = let first : m ≤ e = fits.2 in omega (arith, first)
up_sessions events n m v (Asks (request.Write batch)) fits = le_refl m
up_sessions events n m v (Asks (request.Read b)) fits = le_refl m
up_sessions events n m v (Asks request.Barrier) fits = le_refl m
up_sessions events n m v (Says name msg) fits = le_refl m
up_sessions events n m v Crashes fits = le_refl m
up_sessions events n m v Silence fits = le_refl m

-- a session that is reassigned to is at least the next one
reassigned_up : (events : List Event) (n m v e : ℕ) (x : News) → AsksFit events n m v x → IsReassigning e x → m ≤ e
reassigned_up events n m v e (Asks (request.Reassign k g)) fits is = let first : m ≤ k = fits.2 in subst (λ (j : ℕ). m ≤ j) (sym is) first
reassigned_up events n m v e (Asks (request.Restart k)) fits is = absurd is
reassigned_up events n m v e (Asks (request.Write batch)) fits is = absurd is
reassigned_up events n m v e (Asks (request.Read b)) fits is = absurd is
reassigned_up events n m v e (Asks request.Barrier) fits is = absurd is
reassigned_up events n m v e (Says name msg) fits is = absurd is
reassigned_up events n m v e Crashes fits is = absurd is
reassigned_up events n m v e Silence fits is = absurd is

-- what is asked now comes at an event from n on
new_event : (events : List Event) (n m v : ℕ) (x : News) → AsksFit events n m v x → IsAsking x → n ≤ v
new_event events n m v (Asks r) fits asks = fits.0
new_event events n m v (Says name msg) fits asks = absurd asks
new_event events n m v Crashes fits asks = absurd asks
new_event events n m v Silence fits asks = absurd asks

module _ (volume : Volume) (events : List Event) (history : List Past) (judge : Judge) (n m v : ℕ) (x : News) (fits : AsksFit events n m v x) where
  abbrev shape : Shape
  shape = volume.geometry

  abbrev next_n : ℕ
  next_n = event_after n v x

  abbrev next_m : ℕ
  next_m = session_after m x

  below_then : (a : Ask) → (a.read < 2 ^ 32 → a.read < n) → a.read < 2 ^ 32 → a.read < next_n
  below_then a below low = let was : a.read < n = below low in let up : n ≤ next_n = up_events events n m v x fits in omega (arith, was, up)

  -- ---- of a client that serves

  module _ (s : state.Serving) (holds : Holds volume history judge n m (state.Serves s)) (sized : EachKnown judge (IsSized shape)) (a : Ask) (was : AskFits shape n m (state.Serves s) a) where
    young : s.session < m
    young = let is : s.session ≡ judge.now.session = holds.mirrors.counts.session in let low : judge.now.session < m = holds.young in omega (arith, is, low)

    -- a region's number is at most the last
    number_low : (g : ℕ) → g < regions shape → number_at s g ≤ s.last
    number_low g inside =
        let is : number_at s g ≡ present_number shape judge g = holds.mirrors.counts.numbers g inside in
        let last : s.last ≡ last_number judge = holds.mirrors.counts.last in
        let one : IsSized shape judge.now = sized judge.now judge.now.session (now-known judge) in
        let low : present_number shape judge g ≤ last_number judge = (numbered shape judge.now one g (last_number judge) inside one.begun (le_refl (last_number judge))).within in
        omega (arith, is, last, low)

    not_lined : a.read < 2 ^ 32 → (r : Taken) → IsLined volume s v x r → r.event ≡ a.read → ⊥
    not_lined low r (inl among) same = was.own.unlined low r among same
    not_lined low r (inr new) same =
        let is : r.event ≡ v = new.1 in
        let first : n ≤ v = new_event events n m v x fits new.0 in
        let below : a.read < n = was.below low in
        absurd (omega (arith, is, first, below, same))

    serves_then : (d : state.Serving) → Goes volume s v x d → ServesFit shape d a
    serves_then d goes = record {
      at = λ session inside.
          let before : a.at ≤ number_at s (region_of shape a.block) = was.own.at (session ∙ goes.session) inside in
          le_trans before (goes.numbers (region_of shape a.block) inside (number_low (region_of shape a.block) inside));
      of_read = λ low o among same. elim (goes.reads o among) [
        | inl old ↦
            let of = was.own.of_read low old.read old.among (ap (λ (q : Question). q.number) old.question ∙ same) in
            (of.0 ∙ sym goes.session, of.1 ∙ ap (λ (q : Question). q.block) old.question)
        | inr new ↦ absurd (not_lined low new.0 new.1 (sym (number_is new.0.event new.0.request o.question new.2) ∙ same))
      ];
      unlined = λ low r among same. not_lined low r (goes.line r among) same;
    }

    serving_then : (t : state.Client) → GoesOn volume s v x t → AskFits shape next_n next_m t a
    serving_then (state.Serves d) goes =
        let now : a.session < s.session + 1 = was.bounded in
        let same : d.session ≡ s.session = goes.session in
        record { small = was.small; below = below_then a was.below; bounded = omega (arith, now, same); own = serves_then d goes }
    serving_then state.Closed goes =
        let now : a.session < s.session + 1 = was.bounded in
        let low : s.session < m = young in
        let up : m ≤ next_m = up_sessions events n m v x fits in
        record { small = was.small; below = below_then a was.below; bounded = omega (arith, now, low, up); own = tt }
    serving_then (state.Fetches f) goes =
        let now : a.session < s.session + 1 = was.bounded in
        let low : s.session < m = young in
        let up : m ≤ f.session = reassigned_up events n m v f.session x fits goes.0 in
        record { small = was.small; below = below_then a was.below; bounded = omega (arith, now, low, up); own = tt }
    serving_then (state.Gathers g) goes = absurd goes
    serving_then (state.Stages b) goes = absurd goes
    serving_then (state.Switches b) goes = absurd goes

  -- ---- of another

  module _ (c : state.Client) (a : Ask) (was : AskFits shape n m c a) where
    away_then : (t : state.Client) → IsLater (bound m c) next_m t → AskFits shape next_n next_m t a
    away_then (state.Serves d) later =
        let now : a.session < bound m c = was.bounded in
        let up : bound m c ≤ d.session = later.0 in
        record {
          small = was.small;
          below = below_then a was.below;
          bounded = omega (arith, now, up);
          own = record {
            at = λ session inside. absurd (omega (arith, now, up, session));
            of_read = λ low o among same. absurd (subst (λ (l : List Open). IsAmong o l) later.1 among);
            unlined = λ low r among same. subst (λ (l : List Taken). IsAmong r l) later.2 among;
          };
        }
    away_then state.Closed later =
        let now : a.session < bound m c = was.bounded in
        let up : bound m c ≤ next_m = later in
        record { small = was.small; below = below_then a was.below; bounded = omega (arith, now, up); own = tt }
    away_then (state.Gathers g) later =
        let now : a.session < bound m c = was.bounded in
        let up : bound m c ≤ g.session = later in
        record { small = was.small; below = below_then a was.below; bounded = omega (arith, now, up); own = tt }
    away_then (state.Fetches f) later =
        let now : a.session < bound m c = was.bounded in
        let up : bound m c ≤ f.session = later in
        record { small = was.small; below = below_then a was.below; bounded = omega (arith, now, up); own = tt }
    away_then (state.Stages b) later =
        let now : a.session < bound m c = was.bounded in
        let up : bound m c ≤ b.session = later in
        record { small = was.small; below = below_then a was.below; bounded = omega (arith, now, up); own = tt }
    away_then (state.Switches b) later =
        let now : a.session < bound m c = was.bounded in
        let up : bound m c ≤ b.session = later in
        record { small = was.small; below = below_then a was.below; bounded = omega (arith, now, up); own = tt }

  bound_low : (c : state.Client) → IsAway c → Holds volume history judge n m c → bound m c ≤ m
  bound_low (state.Serves s) away holds = absurd away
  bound_low state.Closed away holds = le_refl m
  bound_low (state.Gathers g) away holds = let low : g.session < m = holds.young.1 in omega (arith, low)
  bound_low (state.Fetches f) away holds = let low : f.session < m = holds.young.1 in omega (arith, low)
  bound_low (state.Stages b) away holds = let low : b.session < m = holds.young.1 in omega (arith, low)
  bound_low (state.Switches b) away holds = let low : b.session < m = holds.young.1 in omega (arith, low)

  opened : (c : state.Client) → IsAway c → Holds volume history judge n m c → KeepsOwn shape c → Opens shape (bound m c) next_m (told volume c v x)
  opened c away holds kept = opens_on volume events n m v (bound m c) c away (le_refl (bound m c)) (bound_low c away holds) kept x fits

  -- ---- of any client

  -- An ask that was sent before a step still fits after it.
  pub old_fits : EachKnown judge (IsSized shape) → (c : state.Client) → Holds volume history judge n m c → KeepsOwn shape c → (a : Ask) → AskFits shape n m c a → AskFits shape next_n next_m (told volume c v x).client a
  old_fits sized (state.Serves s) holds kept a was = serving_then s holds sized a was (told volume (state.Serves s) v x).client (told_on volume s v x).goes
  old_fits sized state.Closed holds kept a was = away_then state.Closed a was (told volume state.Closed v x).client (opened state.Closed tt holds kept).later
  old_fits sized (state.Gathers g) holds kept a was = away_then (state.Gathers g) a was (told volume (state.Gathers g) v x).client (opened (state.Gathers g) tt holds kept).later
  old_fits sized (state.Fetches f) holds kept a was = away_then (state.Fetches f) a was (told volume (state.Fetches f) v x).client (opened (state.Fetches f) tt holds kept).later
  old_fits sized (state.Stages b) holds kept a was = away_then (state.Stages b) a was (told volume (state.Stages b) v x).client (opened (state.Stages b) tt holds kept).later
  old_fits sized (state.Switches b) holds kept a was = away_then (state.Switches b) a was (told volume (state.Switches b) v x).client (opened (state.Switches b) tt holds kept).later

  -- what it sends asks only of what it is then
  pub sends_then : (c : state.Client) → Holds volume history judge n m c → KeepsOwn shape c → AllSentBy shape (told volume c v x).client (told volume c v x).outs
  sends_then (state.Serves s) holds kept = (told_on volume s v x).sends kept
  sends_then state.Closed holds kept = (opened state.Closed tt holds kept).asks
  sends_then (state.Gathers g) holds kept = (opened (state.Gathers g) tt holds kept).asks
  sends_then (state.Fetches f) holds kept = (opened (state.Fetches f) tt holds kept).asks
  sends_then (state.Stages b) holds kept = (opened (state.Stages b) tt holds kept).asks
  sends_then (state.Switches b) holds kept = (opened (state.Switches b) tt holds kept).asks

  goes_keeps : (s : state.Serving) (t : state.Client) → GoesOn volume s v x t → KeepsOwn shape (state.Serves s) → KeepsOwn shape t
  goes_keeps s (state.Serves d) goes kept = goes.unacked kept
  goes_keeps s state.Closed goes kept = tt
  goes_keeps s (state.Gathers g) goes kept = tt
  goes_keeps s (state.Fetches f) goes kept = goes.1
  goes_keeps s (state.Stages b) goes kept = absurd goes
  goes_keeps s (state.Switches b) goes kept = tt

  pub keeps_then : (c : state.Client) → Holds volume history judge n m c → KeepsOwn shape c → KeepsOwn shape (told volume c v x).client
  keeps_then (state.Serves s) holds kept = goes_keeps s (told volume (state.Serves s) v x).client (told_on volume s v x).goes kept
  keeps_then state.Closed holds kept = (opened state.Closed tt holds kept).keeps
  keeps_then (state.Gathers g) holds kept = (opened (state.Gathers g) tt holds kept).keeps
  keeps_then (state.Fetches f) holds kept = (opened (state.Fetches f) tt holds kept).keeps
  keeps_then (state.Stages b) holds kept = (opened (state.Stages b) tt holds kept).keeps
  keeps_then (state.Switches b) holds kept = (opened (state.Switches b) tt holds kept).keeps

-- ---- an ask that is sent

module _ (shape : Shape) (history : List Past) (judge : Judge) (n m : ℕ) (d : state.Serving) (mirrors : MirrorsServing shape history judge n d) (a : Ask) (by : IsAskBy shape d a)
    (wide : AskedWidths a.session a.read a.block a.at) where
  abbrev requests : List Taken
  requests = live history judge

  session : a.session ≡ d.session
  session = ap (λ (x : Ask). x.session) by.is

  read : a.read ≡ by.q.number
  read = ap (λ (x : Ask). x.read) by.is

  block : a.block ≡ by.q.block
  block = ap (λ (x : Ask). x.block) by.is

  -- it is of an open read, or it has no number of a read
  of_question : IsAskedIn d by.q → ((o : Open) × IsAmong o d.reads × (o.question ≡ by.q)) ⊎ (2 ^ 32 ≤ a.read)
  of_question (inl of) = inl of
  of_question (inr of) =
      let qs = filter (λ q. not (is_known shape q history)) (head_questions shape (line_of requests)) in
      let found = among_map (open_of shape history) of.0 qs (subst (λ (l : List Open). IsAmong of.0 l) mirrors.table.asked of.1) in
      let inside : IsAmong found.0 (head_questions shape (line_of requests)) = (among_filter (λ q. not (is_known shape q history)) found.0 (head_questions shape (line_of requests)) found.1).0 in
      let same : found.0.number ≡ a.read = ap (λ (o : Open). o.question.number) (sym found.2) ∙ (ap (λ (q : Question). q.number) of.2 ∙ sym read) in
      let high : 2 ^ 32 ≤ found.0.number = head_high shape requests (line_of requests) found.0 refl inside in
      inr (omega (arith, same, high))

  own_read : (low : a.read < 2 ^ 32) → (o : Open) × IsAmong o d.reads × (o.question ≡ by.q)
  own_read low = elim (of_question by.asked) [ inl of ↦ of | inr high ↦ absurd (omega (arith, low, high)) ]

  below_now : a.read < 2 ^ 32 → a.read < n
  below_now low =
      let o = own_read low in
      let is : o.0.question.number ≡ a.read = ap (λ (q : Question). q.number) o.2 ∙ sym read in
      subst (λ k. k < n) is (number_below shape history judge n d mirrors o.0 o.1)

  -- where it is sent it fits
  pub new_fits : AskFits shape n m (state.Serves d) a
  new_fits = record {
    small = record { session = wide.0; read = wide.1.0; block = wide.1.1.0 };
    below = below_now;
    bounded = omega (arith, session);
    own = record {
      at = λ same inside. subst (λ (y : Ask). y.at ≤ number_at d (region_of shape y.block)) (sym by.is) (le_refl _);
      of_read = λ low o among same.
          let own = own_read low in
          let one : own.0 ≡ o = own_numbers shape history judge n d mirrors o own.0 among own.1 (ap (λ (q : Question). q.number) own.2 ∙ (sym read ∙ sym same)) in
          (session, block ∙ (ap (λ (q : Question). q.block) (sym own.2) ∙ ap (λ (y : Open). y.question.block) one));
      unlined = λ low r among same. not_here low r among same;
    };
  }
    where
      not_here : a.read < 2 ^ 32 → (r : Taken) → IsAmong r d.line → r.event ≡ a.read → ⊥
      not_here low r among same =
          let own = own_read low in
          let found = among_map (open_of shape history) own.0 (read_questions (left_of requests)) (subst (λ (l : List Open). IsAmong own.0 l) mirrors.table.reads own.1) in
          let is : found.0.number ≡ a.read = ap (λ (y : Open). y.question.number) (sym found.2) ∙ (ap (λ (q : Question). q.number) own.2 ∙ sym read) in
          let up : found.0.number < r.event = left_below 0 n requests found.0 r mirrors.order.rises found.1 (subst (λ (l : List Taken). IsAmong r l) mirrors.table.line among) in
          absurd (omega (arith, is, up, same))
