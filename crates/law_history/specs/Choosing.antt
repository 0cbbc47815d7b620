-- What is recovered of a choice are the contents after the batches that it names.
use Rattle.std.specs.Prelude.{◌≡◌, ℕ, ◌≤◌, List, [], ◌∷◌, length, map, Some}
use Rattle.salus_types.specs.Volume.{Shape, blocks}
use Rattle.salus_types.specs.declared.records.Header.{Header}
use Rattle.schedule_text.specs.declared.schedule.Volume.{Volume}
use Rattle.schedule_text.specs.declared.schedule.Event.{Event}
use Rattle.salus_model.specs.declared.trace.TraceStep.{TraceStep}
use Rattle.volume_model.specs.Contents.{all_regions, blocks_in}
use Rattle.volume_model.specs.Parts.{Session, contents_after}
use Rattle.salus_model.specs.Judge.{Judge, known_at}
use Rattle.salus_model.specs.Following.{Posted}
use Rattle.salus_model.specs.Hearing.{News, Past, news_since, begins}
use Rattle.volume_model.specs.Recovering.{Pool, recovered, choice_of}
use Rattle.salus_model.specs.Opening.{replies_to, pool_of}
use Rattle.salus_model.specs.Due.{past_of}

-- the header names a front part of a known session's list, and its blocks are the contents after it
pub record RecoversContents (shape : Shape) (judge : Judge) (pool : Pool) (h : Header) : Type 0 where
  pub known : Session
  pub at : known_at judge h.session ≡ Some known
  pub above : known.base ≤ h.seq
  pub within : h.seq ≤ length known.list
  pub sized : length (contents_after known h.seq) ≡ blocks shape
  pub blocks : recovered shape pool h ≡ Some (map (λ g. blocks_in shape (contents_after known h.seq) g) (all_regions shape))

-- what counts of the replies to a gathering, with one more piece of news
abbrev pub pool_then : Volume → List Past → News → ℕ → Pool
pool_then volume history news e = pool_of volume.geometry volume.key (replies_to e (news ∷ news_since begins history))

-- the choice recovers contents
pub record IsRightPool (shape : Shape) (judge : Judge) (pool : Pool) : Type 0 where
  pub choice : (h : Header) → choice_of shape pool ≡ Some h → RecoversContents shape judge pool h

-- of each gathering, after the news of that step
abbrev pub ChoosesRightThen : Volume → List Past → Past → Type 0
ChoosesRightThen volume history p = (e : ℕ) → IsRightPool volume.geometry p.before (pool_then volume history p.news e)

-- so it was at each step of the history
unfoldable pub ChoseRight : Volume → List Past → Type 0
ChoseRight volume [] = Unit {0}
ChoseRight volume (p ∷ history) = ChoosesRightThen volume history p × ChoseRight volume history

abbrev pub ChoosesRight : Volume → List Event → List Posted → List Past → TraceStep → Type 0
ChoosesRight volume events posts history t = ChoosesRightThen volume history (past_of volume events posts history t)

-- so it is at each of these steps
unfoldable pub ChoosesRightFrom : Volume → List Event → List Posted → List Past → List TraceStep → Type 0
ChoosesRightFrom volume events posts history [] = Unit {0}
ChoosesRightFrom volume events posts history (t ∷ steps) =
    ChoosesRight volume events posts history t × ChoosesRightFrom volume events posts (past_of volume events posts history t ∷ history) steps
