-- Each choice of a restart is a front part of the last list with every acknowledged batch.
use Rattle.std.specs.Prelude.{◌≡◌, ℕ, true, List, [], ◌∷◌, Some, IsSomeAnd}
use Rattle.salus_types.specs.declared.records.Header.{Header}
use Rattle.schedule_text.specs.declared.schedule.Volume.{Volume}
use Rattle.schedule_text.specs.declared.schedule.Event.{Event}
use Rattle.salus_model.specs.declared.trace.TraceStep.{TraceStep}
use Rattle.salus_model.specs.Judge.{Judge, known_at, KeepsAll}
use Rattle.salus_model.specs.Following.{Posted}
use Rattle.salus_model.specs.Hearing.{News, Past, news_of, news_since, begins, judge_of, Phase, Gathering, phase_of}
use Rattle.volume_model.specs.Recovering.{choice_of}
use Rattle.salus_model.specs.Opening.{replies_to, all_replied, pool_of}
use Rattle.salus_model.specs.Due.{past_of}

-- once all replies of a gathering are in, with one more piece of news
abbrev pub IsChoiceKept : Volume → List Past → Judge → News → Phase → Type 0
IsChoiceKept volume history judge news phase =
    (e : ℕ) (h : Header) → phase ≡ Gathering e → all_replied volume.geometry (replies_to e (news ∷ news_since begins history)) ≡ true
    → choice_of volume.geometry (pool_of volume.geometry volume.key (replies_to e (news ∷ news_since begins history))) ≡ Some h
    → IsSomeAnd (known_at judge h.session) (λ from. KeepsAll judge h.seq from)

abbrev pub KeepsChoice : Volume → List Event → List Posted → List Past → TraceStep → Type 0
KeepsChoice volume events posts history t = IsChoiceKept volume history (judge_of volume.geometry events history) (news_of posts t) (phase_of history)

-- so it is at each of these steps
unfoldable pub KeepsChoiceFrom : Volume → List Event → List Posted → List Past → List TraceStep → Type 0
KeepsChoiceFrom volume events posts history [] = Unit {0}
KeepsChoiceFrom volume events posts history (t ∷ steps) =
    KeepsChoice volume events posts history t × KeepsChoiceFrom volume events posts (past_of volume events posts history t ∷ history) steps
