use Rattle.std.proofs.Common.{subst}
use Rattle.datanode_store.specs.declared.error.StoreError.{StoreError}
use Rattle.datanode_store.specs.Causes.{IsOutside}
use Rattle.salus_world.proofs.formatting.refuse.Goals as goal

pub returns-in-Foreign : goal.returns-in-Foreign
returns-in-Foreign g c = λ all. (c.in-Ok.ensures all, λ out. subst (λ (e : StoreError). IsOutside e) c.in-Foreign.is out)

pub returns-in-Damaged : goal.returns-in-Damaged
returns-in-Damaged g c = λ all. (c.in-Ok.ensures all, λ out. subst (λ (e : StoreError). IsOutside e) c.in-Damaged.is out)

pub returns-in-BadRecord : goal.returns-in-BadRecord
returns-in-BadRecord g c = λ all. (c.in-Ok.ensures all, λ out. subst (λ (e : StoreError). IsOutside e) c.in-BadRecord.is out)
