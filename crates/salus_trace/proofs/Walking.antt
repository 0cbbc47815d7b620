-- A world goes on from one event to the next.
use Rattle.std.proofs.Common.{◌≡◌, ◌∙◌, ℕ, ◌+◌, ◌^◌, ◌<◌, List, slice_get, Option, None, Some, sym, arith}
use Rattle.schedule_text.specs.declared.schedule.Volume.{Volume}
use Rattle.schedule_text.specs.declared.schedule.Event.{Event}
use Rattle.schedule_text.specs.Limits.{IsPartyOfVolume}
use Rattle.salus_model.specs.declared.sending.Sent.{Sent}
use Rattle.salus_model.specs.Judge.{event_at}
use Rattle.run_steps.specs.Steps.{with_step}
use Rattle.disk_model.specs.declared.disk.Disk.{Ghosts}
use Rattle.disk_model.specs.declared.memory.MemDisk.{MemDisk}
use Rattle.salus_world.specs.declared.world.World.{World}
use Rattle.salus_world.specs.Kept.{IsOngoing, Does, DeliversNext}
use Rattle.salus_world.specs.Runs.{formatted_origin}
use Rattle.salus_world.proofs.Doing.{next_kept}
use Rattle.salus_world.proofs.Acting.{message_within}
use Rattle.salus_trace.specs.Before.{IsBefore}

module _ (volume : Volume) (all : List Event) (n : ℕ) where
  pub ongoing : {g : Ghosts MemDisk} {lane : _} (w : World MemDisk g lane) → IsBefore volume all n w → IsOngoing w
  ongoing w before = (formatted_origin volume, volume, all, n, n, before.0, before.1)

  pub after_event : {g : Ghosts MemDisk} {lane : _} (e : Event) (was now : World MemDisk g lane) → Does n e was now → n < 2 ^ 32 → event_at all n ≡ Some e → IsBefore volume all n was → IsBefore volume all (n + 1) now
  after_event e was now does low at before = let done = does (formatted_origin volume) volume all before.0 low at before.1 in (done.course, done.kept)

  -- the event makes no more steps
  pub event_over : {g : Ghosts MemDisk} {lane : _} (w : World MemDisk g lane) → n < 2 ^ 32 → IsBefore volume all n w → IsBefore volume all (n + 1) w
  event_over w low before = (before.0, next_kept (formatted_origin volume) volume all n n w before.0 before.1 before.1.some (omega arith) (omega (arith, low)))

  pub after_next : {g : Ghosts MemDisk} {lane : _} (next : Option ℕ) (was now : World MemDisk g lane) → DeliversNext next was now → IsBefore volume all n was → IsBefore volume all n now
  after_next None was now delivers before = (before.0, (delivers (formatted_origin volume) volume all n n before.0 before.1).kept)
  after_next (Some k) was now delivers before =
      let d = delivers (formatted_origin volume) volume all n n before.0 before.1 in
      (with_step before.0 d.stepped.step d.stepped.said, d.stepped.kept)

-- two worlds of one volume
pub same_geometry : {g : Ghosts MemDisk} {lane : _} (volume : Volume) (all : List Event) (n m : ℕ) (was now : World MemDisk g lane) → IsBefore volume all n was → IsBefore volume all m now → was.geometry ≡ now.geometry
same_geometry volume all n m was now before after = before.1.geometry ∙ sym after.1.geometry

-- the receiver of a message that is sent
pub receiver_within : {g : Ghosts MemDisk} {lane : _} (w : World MemDisk g lane) → IsOngoing w → (index : ℕ) (m : Sent) → slice_get w.sent.items index ≡ Some m → IsPartyOfVolume w.geometry m.to
receiver_within w k index m at = (message_within k.0 k.1 k.2 k.3 k.4 w k.5 k.6 index m at).1
