-- Which serving clients of the rules a window stands for.
use Rattle.std.specs.Prelude.{◌≡◌, ℕ, List, map}
use Rattle.salus_types.specs.Volume.{Shape}
use Rattle.salus_types.specs.declared.names.NodeName.{NodeName}
use Rattle.volume_model.specs.Contents.{Batch, apply, region_root, roots_of}
use Rattle.volume_model.specs.Parts.{touched_by}
use Rattle.replica_rules.specs.Voting.{greater}
use Rattle.unanimous_certificate.specs.Kept.{claims_in}
use Rattle.client_rules.specs.State.{Serving, Unacked}
use Rattle.client_rules.specs.Tables.{claim_of}
use Rattle.client_window.specs.Window.{KeptWindow}

-- It has that client's numbers, the roots of its contents, the leaders of its batches, its barriers, and its claims, of
-- which those below the base are as high as the base. Nothing is said of what waits in line, nor of reads.
pub record StandsFor (w : KeptWindow) (c : Serving) : Type 0 where
  pub session : w.session ≡ c.session
  pub base : w.base ≡ c.base
  pub last : w.last ≡ c.last
  pub acked : w.acked ≡ c.acked
  pub numbers : w.numbers ≡ c.numbers
  pub roots : w.roots ≡ roots_of w.shape c.contents
  pub leader : w.leader ≡ c.leader
  pub leaders : w.leaders ≡ map (λ (u : Unacked). u.leader) c.unacked
  pub claims : (name : NodeName) → claims_in w.claims name ≡ greater c.base (claim_of name c.claims)
  pub barriers : w.barriers ≡ c.barriers

-- whatever client it stood for, it stands for what that one has become
abbrev pub Follows : (Serving → Serving) → KeptWindow → KeptWindow → Type 0
Follows step before after = (c : Serving) → StandsFor before c → StandsFor after (step c)

-- These are the roots that the contents after the batch have in the regions that it touches.
abbrev pub HasRoots : Shape → List (List ℕ) → Batch → List (List ℕ) → Type 0
HasRoots shape contents batch news = map (λ g. region_root shape (apply contents batch) g) (touched_by shape batch) ≡ news
