-- What is given of a run, step by step: what is handed over in the client's name brings records that have a spelling, and
-- each step addresses a party of the volume.
use Rattle.std.specs.Prelude.{List}
use Rattle.std.specs.List.{AllByRecursion}
use Rattle.salus_types.specs.Volume.{Shape}
use Rattle.schedule_text.specs.Limits.{IsPartyOfVolume}
use Rattle.salus_model.specs.declared.trace.Handed.{Handed}
use Rattle.salus_model.specs.declared.trace.TraceStep.{TraceStep}
use Rattle.salus_model.specs.Following.{Posted}
use Rattle.salus_model.specs.Licences.{letters_in}
use Rattle.law_handed.specs.Fitting.{IsSpelled, LetterGiven}

-- a record that the client brings in what is handed over has a spelling
abbrev pub HandsSpelled : List Posted → Handed → Type 0
HandsSpelled posts what = AllByRecursion (LetterGiven IsSpelled IsSpelled) (letters_in posts what)

abbrev pub AllHandSpelled : List Posted → List TraceStep → Type 0
AllHandSpelled posts trace = AllByRecursion (λ t. HandsSpelled posts t.handed) trace

abbrev pub AllAddressed : Shape → List TraceStep → Type 0
AllAddressed shape trace = AllByRecursion (λ t. IsPartyOfVolume shape t.party) trace
