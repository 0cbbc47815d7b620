-- What is sound stays so where more becomes known, and a good world stays good along a run.
use Rattle.std.proofs.Common.{◌≡◌, ℕ, ◌<◌, ◌∙◌, List, take, inl, inr, ap, sym, subst, arith}
use Rattle.salus_types.specs.Volume.{Shape}
use Rattle.salus_types.specs.declared.records.Record.{Record}
use Rattle.salus_types.specs.declared.records.Base.{Base}
use Rattle.salus_types.specs.declared.records.Held.{Held}
use Rattle.schedule_text.specs.declared.schedule.Event.{Event}
use Rattle.volume_model.specs.Parts.{Session}
use Rattle.salus_model.specs.Judge.{Judge}
use Rattle.salus_model.specs.Hearing.{Past, judge_of, Serving, phase_of}
use Rattle.law_lemmas.proofs.Numbered.{IsSized}
use Rattle.law_lemmas.proofs.Owned.{own_part}
use Rattle.law_lemmas.proofs.Growing.{extended, Grows, own_extended, sized-extended}
use Rattle.law_lemmas.proofs.Settled.{EachKnown}
use Rattle.law_prefix.specs.World as abstract
use Rattle.law_prefix.specs.World.{World, Guarded}
use Rattle.law_prefix.specs.Good.{Good}
use Rattle.law_prefix.specs.Run.{Run, begun, further}
use Rattle.law_prefix.proofs.Kept.{good_step}
use Rattle.kept_model.specs.Nodes.{volume_as}
use Rattle.kept_model.specs.Phases.{IsClientOf}
use Rattle.kept_model.specs.Sound.{IsSoundBase, IsSoundPart, IsSoundHeld}
use Rattle.law_records.proofs.Content.{part-content}
use Rattle.law_phases.specs.Fronts.{AreFronts}
use Rattle.law_phases.proofs.Still.{SameSessions}
use Rattle.law_phases.proofs.Sees.{known_same}
use Rattle.law_phases.proofs.Keeping.{fronts_none}
use Rattle.law_phases.proofs.Moving.{phase_now}

-- ---- what a node holds

module _ (shape : Shape) (key : List ℕ) (a b : Judge) (grows : Grows a b) (sized : EachKnown a (IsSized shape)) (g : ℕ) where
  base_lasts : (base : Base) → IsSoundBase shape key a g base → IsSoundBase shape key b g base
  base_lasts base is =
      let grown = grows is.known base.rec.header.session is.at in
      record {
        known = extended is.known grown.0;
        at = grown.1;
        own = own_extended shape key is.known g base.rec grown.0 (sized is.known base.rec.header.session is.at).begun is.own;
        fits = is.fits;
        whole = is.whole;
        root = is.root;
      }

  part_lasts : (e : ℕ) (rec : Record) → IsSoundPart shape key a g e rec → IsSoundPart shape key b g e rec
  part_lasts e rec is =
      let grown = grows is.known e is.at in
      let small : IsSized shape is.known = sized is.known e is.at in
      record {
        known = extended is.known grown.0;
        at = grown.1;
        part = own_part shape key (extended is.known grown.0) (sized-extended shape is.known grown.0 small) g rec
            (own_extended shape key is.known g rec grown.0 small.begun (inl is.part)) (part-content shape key is.known g rec is.part);
        fits = is.fits;
      }

  pub held_lasts : (held : Held) → IsSoundHeld shape key a g held → IsSoundHeld shape key b g held
  held_lasts held is = record {
    bases = λ base m. base_lasts base (is.bases base m);
    unfolded = is.unfolded;
    parts = λ rec m. part_lasts held.session rec (is.parts rec m);
    top = is.top;
    links = is.links;
    begun = is.begun;
  }

-- ---- a run

pub run_good : (v : abstract.Volume) (w x : World) → Run v w x → Good v w → Good v x × Guarded v x.counts
run_good v w x (begun u guarded) good = (good, guarded)
run_good v w x (further u y z run step guarded) good = let before = run_good v u y run good in (good_step v y z step before.0 before.1, guarded)

-- ---- front parts

-- the same sessions have the same fronts
pub fronts_same : (a b : Judge) → SameSessions a b → AreFronts a → AreFronts b
fronts_same a b same fronts = record {
  each = λ known f at above.
      fronts.each known f (sym (known_same a b same.now same.others f) ∙ at) (subst (λ (k : Session). k.session < f) same.now above)
      ∙ ap (λ (k : Session). take known.base k.list) (sym same.now);
}

-- while the client serves, no session above the one served is known
pub fronts_serving : (shape : Shape) (events : List Event) (history : List Past) (w : World) → IsClientOf shape events history w.client → Good (volume_as shape events) w → phase_of history ≡ Serving
    → AreFronts (judge_of shape events history)
fronts_serving shape events history w client good at =
    let judge : Judge = judge_of shape events history in
    let serving : w.client.phase ≡ abstract.Serving = client.phase ∙ phase_now shape history Serving at in
    let asked : w.client.asked ≡ w.client.served = good.client.serving serving in
    let served : w.client.served ≡ judge.now.session = client.served in
    fronts_none judge (λ known f here. (let low = good.client.known_asked f (client.known_back f (inr (known, here))) in omega (arith, low, asked, served)))
