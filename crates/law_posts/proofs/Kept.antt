-- What a client keeps to send it again, and that it stays tagged.
use Rattle.std.proofs.Common.{◌≡◌, ℕ, ◌≤◌, ◌∙◌, List, [], ◌∷◌, ◌++◌, flat_map, refl, ap, subst}
use Rattle.std.specs.List.{AllByRecursion}
use Rattle.salus_types.specs.declared.names.NodeName.{NodeName}
use Rattle.salus_types.specs.declared.records.Record.{Record}
use Rattle.salus_message.specs.declared.wire.Message.{Message}
use Rattle.merkle_region.specs.Tree.{IsAmong}
use Rattle.schedule_text.specs.declared.schedule.Volume.{Volume}
use Rattle.schedule_text.specs.declared.schedule.Event.{Event}
use Rattle.printed_lines.specs.declared.line.Line.{Line}
use Rattle.printed_lines.specs.declared.line.Line.TheVariants as line
use Rattle.salus_model.specs.Judge.{Judge, batch_of, event_at, judged, judged_all}
use Rattle.salus_model.specs.Hearing.{Past}
use Rattle.salus_model.specs.Forgery.{IsTagged, records_in}
use Rattle.client_rules.specs.State as state
use Rattle.client_rules.specs.State.{Letter, Unacked, to_all}
use Rattle.list_lemmas.proofs.Each.{all_map, all_each}
use Rattle.law_lemmas.proofs.Growing.{IsGoing, going-grows, tagged-grows, going_still, going_on}
use Rattle.law_lemmas.proofs.Settled.{IsBelow, IsSettled, going-below, going-settled, settled-wider}
use Rattle.law_lines.specs.Mirrors.{MirrorsKnown, Holds}

-- ---- what is kept, and what is sent

-- the records of these letters
abbrev pub records_sent : List Letter → List Record
records_sent letters = flat_map (λ l. records_in l.message) letters

abbrev pub parts_of : List Unacked → List Record
parts_of us = flat_map (λ u. u.parts) us

abbrev pub kept : state.Client → List Record
kept state.Closed = []
kept (state.Serves c) = parts_of c.unacked
kept (state.Gathers g) = []
kept (state.Fetches f) = []
kept (state.Stages b) = records_sent b.bases
kept (state.Switches b) = []

abbrev pub EachTagged : Volume → Judge → List Record → Type 0
EachTagged volume judge records = (rec : Record) → IsAmong rec records → IsTagged volume.geometry volume.key judge rec

-- letters without records
abbrev pub HaveNone : List Letter → Type 0
HaveNone letters = AllByRecursion (λ l. records_in l.message ≡ []) letters

pub none_sent : (letters : List Letter) → HaveNone letters → records_sent letters ≡ []
none_sent [] none = refl
none_sent (l ∷ letters) none = ap (λ rs. rs ++ records_sent letters) none.0 ∙ none_sent letters none.1

pub none_to : (names : List NodeName) (m : Message) → records_in m ≡ [] → HaveNone (to_all names m)
none_to names m none = all_map (λ (l : Letter). records_in l.message ≡ []) (λ name. record { to = name; message = m }) names (all_each (λ name. records_in m ≡ []) names (λ name. none))

-- ---- between two steps

-- the session that is to be staged is none that is known
abbrev pub OpensNew : Judge → ℕ → state.Client → Type 0
OpensNew judge top state.Closed = Unit {0}
OpensNew judge top (state.Serves c) = Unit {0}
OpensNew judge top (state.Gathers g) = IsBelow judge g.session × (g.session ≤ top)
OpensNew judge top (state.Fetches f) = IsBelow judge f.session × (f.session ≤ top)
OpensNew judge top (state.Stages b) = Unit {0}
OpensNew judge top (state.Switches b) = Unit {0}

-- sessions up to top were asked for
pub record IsTidy (volume : Volume) (judge : Judge) (top : ℕ) (c : state.Client) : Type 0 where
  pub settled : IsSettled volume.geometry judge top
  pub opens : OpensNew judge top c
  pub keeps : EachTagged volume judge (kept c)

-- what a step gives
pub record TellsTagged (volume : Volume) (after : Judge) (top : ℕ) (told : state.Told) : Type 0 where
  pub tidy : IsTidy volume after top told.client
  pub sends : EachTagged volume after (records_sent told.outs)

-- the session that begins is known
abbrev pub BegunFits : Judge → state.Client → Type 0
BegunFits judge state.Closed = Unit {0}
BegunFits judge (state.Serves c) = Unit {0}
BegunFits judge (state.Gathers g) = Unit {0}
BegunFits judge (state.Fetches f) = Unit {0}
BegunFits judge (state.Stages b) = MirrorsKnown judge b
BegunFits judge (state.Switches b) = Unit {0}

-- ---- lines that stage and open nothing

abbrev pub IsPlain : Line → Type 0
IsPlain (line.Stage e f s) = ⊥
IsPlain (line.Open e) = ⊥
IsPlain other = Unit {0}

abbrev pub ArePlain : List Line → Type 0
ArePlain lines = AllByRecursion IsPlain lines

module _ (events : List Event) where
  going_line : (judge : Judge) (l : Line) → IsPlain l → IsGoing judge (judged events judge l)
  going_line judge (line.Submit v s) plain = record { more = batch_of (event_at events v); now = refl; others = refl; staged = refl; opened = refl }
  going_line judge (line.Ack s) plain = going_still judge _ refl refl refl refl
  going_line judge (line.Read v b x) plain = going_still judge _ refl refl refl refl
  going_line judge (line.Fault v b strikes) plain = going_still judge _ refl refl refl refl
  going_line judge (line.Barrier v s) plain = going_still judge _ refl refl refl refl
  going_line judge (line.Refused v cause) plain = going_still judge _ refl refl refl refl
  going_line judge (line.Skip v k) plain = going_still judge _ refl refl refl refl
  going_line judge (line.Stage e f s) plain = absurd plain
  going_line judge (line.Open e) plain = absurd plain
  going_line judge (line.Lost e) plain = going_still judge _ refl refl refl refl

  pub plain_going : (lines : List Line) (judge : Judge) → ArePlain lines → IsGoing judge (judged_all events judge lines)
  unfolding judged_all
  plain_going [] judge plain = going_still judge judge refl refl refl refl
  plain_going (l ∷ lines) judge plain = going_on judge (judged events judge l) _ (going_line judge l plain.0) (plain_going lines (judged events judge l) plain.1)

going_opens : (before after : Judge) → IsGoing before after → (top : ℕ) (c : state.Client) → OpensNew before top c → OpensNew after top c
going_opens before after going top state.Closed opens = tt
going_opens before after going top (state.Serves c) opens = tt
going_opens before after going top (state.Gathers g) opens = (going-below before after going g.session opens.0, opens.1)
going_opens before after going top (state.Fetches f) opens = (going-below before after going f.session opens.0, opens.1)
going_opens before after going top (state.Stages b) opens = tt
going_opens before after going top (state.Switches b) opens = tt

module _ (volume : Volume) (events : List Event) (judge : Judge) (top : ℕ) where
  -- what was tagged stays so
  pub plain_keeps : (lines : List Line) → ArePlain lines → IsSettled volume.geometry judge top → (records : List Record) → EachTagged volume judge records
      → EachTagged volume (judged_all events judge lines) records
  plain_keeps lines plain settled records tagged rec among =
      tagged-grows volume.geometry volume.key judge (judged_all events judge lines) rec settled.sized
      (going-grows judge (judged_all events judge lines) (plain_going events lines judge plain)) (tagged rec among)

  -- a step with such lines
  pub plain_tells : (more : ℕ) (told : state.Told) → top ≤ more → IsSettled volume.geometry judge top → ArePlain told.lines → OpensNew judge more told.client
      → EachTagged volume (judged_all events judge told.lines) (kept told.client) → EachTagged volume (judged_all events judge told.lines) (records_sent told.outs)
      → TellsTagged volume (judged_all events judge told.lines) more told
  plain_tells more told up settled plain opens keeps sends =
      let after : Judge = judged_all events judge told.lines in
      let going = plain_going events told.lines judge plain in
      record {
        tidy = record {
          settled = going-settled judge after going volume.geometry more (settled-wider volume.geometry judge top more up settled);
          opens = going_opens judge after going more told.client opens;
          keeps = keeps;
        };
        sends = sends;
      }

  pub nothing_sent : (letters : List Letter) → HaveNone letters → (after : Judge) → EachTagged volume after (records_sent letters)
  nothing_sent letters none after rec among = absurd (subst (λ (l : List Record). IsAmong rec l) (none_sent letters none) among)

  -- one that sends no record, and keeps none that it didn't
  pub quiet_tells : (more : ℕ) (c : state.Client) (told : state.Told) → top ≤ more → IsTidy volume judge top c → ArePlain told.lines → OpensNew judge more told.client
      → ((rec : Record) → IsAmong rec (kept told.client) → IsAmong rec (kept c)) → HaveNone told.outs → TellsTagged volume (judged_all events judge told.lines) more told
  quiet_tells more c told up tidy plain opens within none =
      plain_tells more told up tidy.settled plain opens
      (λ rec among. plain_keeps told.lines plain tidy.settled (kept c) tidy.keeps rec (within rec among))
      (nothing_sent told.outs none (judged_all events judge told.lines))

-- ---- what the law of lines says of the client

pub begun_of : (volume : Volume) (history : List Past) (judge : Judge) (n m : ℕ) (c : state.Client) → Holds volume history judge n m c → BegunFits judge c
begun_of volume history judge n m state.Closed h = tt
begun_of volume history judge n m (state.Serves c) h = tt
begun_of volume history judge n m (state.Gathers g) h = tt
begun_of volume history judge n m (state.Fetches f) h = tt
begun_of volume history judge n m (state.Stages b) h = h.mirrors.begun
begun_of volume history judge n m (state.Switches b) h = tt
