-- A client that serves after requests have left, or barriers were answered.
use Rattle.std.proofs.Common.{◌≡◌, ℕ, ◌<◌, Bool, true, false, ◌∙◌, if◌then◌else◌, List, [], ◌∷◌, ◌++◌, refl, ap, sym, subst}
use Rattle.std.specs.Prelude.{flat_map}
use Rattle.std.specs.List.{list_all}
use Rattle.schedule_text.specs.declared.schedule.Volume.{Volume}
use Rattle.printed_lines.specs.declared.line.Line.{Line}
use Rattle.printed_lines.specs.declared.line.Line.TheVariants as line
use Rattle.salus_model.specs.Judge.{Judge, is_among, front_of}
use Rattle.salus_model.specs.Hearing.{Past, opens, since, phase_of, Serving}
use Rattle.salus_model.specs.Waiting.{Taken, left_of, all_taken, live, has_ended}
use Rattle.salus_model.specs.Due.{barrier_due}
use Rattle.client_rules.specs.State as state
use Rattle.list_lemmas.proofs.Tests.{by_either}
use Rattle.law_lines.specs.Mirror.{Between, MirrorsClaims, IsInOrder, MirrorsLine}
use Rattle.law_lines.specs.Mirrors.{Holds}
use Rattle.law_lines.proofs.Settled.{without, unended-more, is_due, due_events, ended-answered, dues-below, stays, settled, barrier_due-is}
use Rattle.law_lines.proofs.Moving.{settled_judge, HasLeft}
use Rattle.law_lines.proofs.Keeping.{before-serving}
use Rattle.law_lines.proofs.Histories.{is_work}

-- what is live after the barriers that are due
pub live-settled : (history : List Past) (judge : Judge) (requests : List Taken) (low n : ℕ) → live history judge ≡ requests → Between low requests n
    → live history (settled_judge judge requests) ≡ stays judge requests
unfolding live
live-settled history judge requests low n lives b =
    unended-more judge (settled_judge judge requests) (due_events judge (left_of requests)) (ended-answered judge (due_events judge (left_of requests))) (all_taken (since opens history))
    ∙ ap (without (due_events judge (left_of requests))) lives
    ∙ settled judge low n requests b

-- what has ended then was asked before
pub ended-settled : (judge : Judge) (requests : List Taken) (low n : ℕ) → Between low requests n → ((v : ℕ) → has_ended judge v ≡ true → v < n)
    → (v : ℕ) → has_ended (settled_judge judge requests) v ≡ true → v < n
ended-settled judge requests low n b ended v is =
    by_either (has_ended judge v) (is_among v (due_events judge (left_of requests))) (v < n)
    (sym (ended-answered judge (due_events judge (left_of requests)) v) ∙ is) (ended v) (dues-below judge low n requests v b)

one_works : (t : Bool) (l : Line) (ls : List Line) → is_work l ≡ true → list_all is_work ls ≡ true → list_all is_work ((if t then l ∷ [] else []) ++ ls) ≡ true
one_works true l ls is all = rw is all
one_works false l ls is all = all

-- lines of barriers are those of a client that goes on serving
pub barriers-work : (judge : Judge) (rs : List Taken) → list_all is_work (flat_map (λ r. barrier_due judge r.event r.request) rs) ≡ true
barriers-work judge [] = refl
barriers-work judge (r ∷ rs) =
    ap (λ l. list_all is_work (l ++ flat_map (λ x. barrier_due judge x.event x.request) rs)) (barrier_due-is judge r)
    ∙ one_works (is_due judge r) (line.Barrier r.event (front_of judge r.event)) (flat_map (λ x. barrier_due judge x.event x.request) rs) refl (barriers-work judge rs)

-- the client after requests have left
pub serving-left : (volume : Volume) (history : List Past) (judge : Judge) (requests : List Taken) (n m : ℕ) (c : state.Serving)
    → Between 0 requests n → live history judge ≡ requests → phase_of history ≡ Serving → ((v : ℕ) → has_ended judge v ≡ true → v < n)
    → judge.now.session < m → MirrorsClaims history judge c → HasLeft volume.geometry history judge requests n c
    → Holds volume history (settled_judge judge requests) n m (state.Serves c)
serving-left volume history judge requests n m c b lives phase ended young claims left = record {
  before = before-serving volume.geometry history (settled_judge judge requests) (stays judge requests) n left.order (ended-settled judge requests 0 n b ended);
  young = young;
  mirrors = record {
    serves = phase;
    counts = left.counts;
    table = subst (λ rs. MirrorsLine volume.geometry history (settled_judge judge requests) rs c) (sym (live-settled history judge requests 0 n lives b)) left.table;
    order = subst (λ rs. IsInOrder volume.geometry history (settled_judge judge requests) rs n) (sym (live-settled history judge requests 0 n lives b)) left.order;
    claims = claims;
  };
}
