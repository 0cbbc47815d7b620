-- Parts of one session and region, of which each goes on from the one before, and what a replica keeps of them.
use Rattle.std.specs.Prelude.{◌≡◌, ◌⊎◌, ℕ, ◌<◌, ◌≤◌, true, Option, None, Some, Ok}
use Rattle.std.specs.List.{AllByRecursion}
use Rattle.salus_types.specs.Volume.{Shape}
use Rattle.salus_types.specs.declared.names.Sender.TheVariants as sender
use Rattle.salus_types.specs.declared.records.Record.{Record}
use Rattle.salus_message.specs.declared.wire.Message.TheVariants as message
use Rattle.salus_message.specs.Reading.{message_at}
use Rattle.replica_rules.specs.Views.{View, view_after, is_accepted}
use Rattle.replica_rules.specs.Replicas.{Replica, has_early}
use Rattle.replica_rules.specs.Nodes.{Memory}
use Rattle.replica_rules.specs.Rules.{Input, Receives, Ticks}

-- Each part's number is above the one that it goes on from. Parts that go on from one number have one number, and between
-- the two numbers of a part no other part goes on. No view lies between them either, and a view that a part goes on from
-- accepts it.
pub record IsChain (shape : Shape) (IsPart : Record → Type 0) (IsView : View → Type 0) : Type 0 where
  pub rises : (rec : Record) → IsPart rec → rec.header.previous < rec.header.seq
  pub one : (a b : Record) → IsPart a → IsPart b → a.header.previous ≡ b.header.previous → a.header.seq ≡ b.header.seq
  pub apart : (a b : Record) → IsPart a → IsPart b → a.header.previous < b.header.previous → a.header.seq ≤ b.header.previous
  pub between : (view : View) (rec : Record) → IsView view → IsPart rec → view.number < rec.header.seq → view.number ≤ rec.header.previous
  pub accepts : (view : View) (rec : Record) → IsView view → IsPart rec → rec.header.previous ≡ view.number → is_accepted shape view rec ≡ true
  pub after : (view : View) (rec : Record) → IsView view → IsPart rec → rec.header.previous ≡ view.number → IsView (view_after shape view rec)

-- the view is one of them, and each early part is one of the parts and goes on from above the view's number
pub record IsInTurn (IsPart : Record → Type 0) (IsView : View → Type 0) (r : Replica) : Type 0 where
  pub view : IsView r.view
  pub early : AllByRecursion (λ rec. IsPart rec × (r.view.number < rec.header.previous)) r.early

-- the view has reached the part, or a part that goes on from the same number is kept early
abbrev pub HasCome : Record → Replica → Type 0
HasCome rec r = (rec.header.seq ≤ r.view.number) ⊎ (has_early r.early rec.header.previous ≡ true)

abbrev pub ComesIn : Record → Option Memory → Type 0
ComesIn rec None = ⊥
ComesIn rec (Some m) = HasCome rec m.replica

-- the view's number hasn't fallen, and the parts that have come are still there
pub record GoesOn (IsPart : Record → Type 0) (before after : Replica) : Type 0 where
  pub session : after.session ≡ before.session
  pub rises : before.view.number ≤ after.view.number
  pub come : (rec : Record) → IsPart rec → HasCome rec before → HasCome rec after

-- so of the memory after it
pub record TurnsTo (IsPart : Record → Type 0) (IsView : View → Type 0) (before : Replica) (memory : Option Memory) : Type 0 where
  pub m : Memory
  pub is : memory ≡ Some m
  pub turn : IsInTurn IsPart IsView m.replica
  pub on : GoesOn IsPart before m.replica

-- the input is that part of the client
abbrev pub BringsPart : Input → Record → Type 0
BringsPart (Receives sender.Client bytes) rec = message_at bytes ≡ Ok (message.Part (record { rec = rec }))
BringsPart (Receives (sender.Node name) bytes) rec = ⊥
BringsPart Ticks rec = ⊥

-- a part that goes on from above that number goes on from another part
abbrev pub IsLinked : (Record → Type 0) → ℕ → Type 0
IsLinked IsPart x = (rec : Record) → IsPart rec → x < rec.header.previous → (before : Record) × IsPart before × (before.header.seq ≡ rec.header.previous)
