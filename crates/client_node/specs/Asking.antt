-- What a client makes of a request.
use Rattle.std.specs.Prelude.{◌≡◌, ◌+◌, ◌^◌, ◌<◌, ◌≤◌, ℕ, [], ◌∷◌, length}
use Rattle.std.specs.List.{AllByRecursion}
use Rattle.salus_types.specs.Volume.{Shape, regions}
use Rattle.salus_types.specs.declared.records.Write.{Write}
use Rattle.schedule_text.specs.declared.schedule.Volume.{Volume}
use Rattle.printed_lines.specs.declared.line.Line.TheVariants as line
use Rattle.salus_model.specs.declared.trace.Request.{Request}
use Rattle.salus_model.specs.declared.trace.Request.TheVariants as request
use Rattle.client_rules.specs.State.{Client, Serves, Serving, only_lines}
use Rattle.client_rules.specs.Serving.{fetches}
use Rattle.client_rules.specs.Rules.{requested}
use Rattle.session_opening.specs.Fetched.{IsServed}
use Rattle.session_opening.specs.declared.fetching.Served.{Served}
use Rattle.client_node.specs.declared.asking.Ruling.{Ruling}
use Rattle.client_node.specs.declared.asking.Ruling.TheVariants as ruling

-- a request that opens no session: a write has at most 64 blocks, each of the volume's length
abbrev pub OpensNone : Shape → Request → Type 0
OpensNone shape (request.Write batch) = (length batch ≤ 64) × AllByRecursion (λ (w : Write). length w.bytes ≡ shape.block) batch
OpensNone shape (request.Read b) = Unit {0}
OpensNone shape request.Barrier = Unit {0}
OpensNone shape (request.Restart session) = ⊥
OpensNone shape (request.Reassign session region) = ⊥

-- where a session is left for another one, the region is one of the volume, and there is a root for each region
abbrev pub RulingFits : Shape → ℕ → ℕ → Ruling → Type 0
RulingFits shape newest region (ruling.Refuses cause) = Unit {0}
RulingFits shape newest region (ruling.Leaves served) = (region < regions shape) × (length served.roots ≡ regions shape) × (served.number ≤ 2 ^ 63 + newest)

-- that client serves this, and fetches the region's blocks
pub record IsLeft (volume : Volume) (c : Client) (v session region : ℕ) (served : Served) : Type 0 where
  pub serving : Serving
  pub client : c ≡ Serves serving
  pub served_is : IsServed volume.geometry served serving
  pub told : requested volume c v (request.Reassign session region) ≡ fetches volume.geometry serving session region

-- the rules refuse that client's reassignment, or take it
abbrev pub IsRuling : Volume → Client → ℕ → ℕ → ℕ → Ruling → Type 0
IsRuling volume c v session region (ruling.Refuses cause) = requested volume c v (request.Reassign session region) ≡ only_lines c (line.Refused v cause ∷ [])
IsRuling volume c v session region (ruling.Leaves served) = IsLeft volume c v session region served
