use Rattle.salus_trace.proofs.Walking.{ongoing, after_next}
use Rattle.salus_trace.proofs.tracing.trace_next.Goals as goal

pub deliver_next-requires : goal.deliver_next-requires
deliver_next-requires c = let k = c.requires in record { kept = ongoing k.0 k.1 c.args.number c.args.world.now k.2 }

pub put_delivery-requires : goal.put_delivery-requires
put_delivery-requires c =
    let k = c.requires in
    ongoing k.0 k.1 c.args.number c.deliver_next.new.self (after_next k.0 k.1 c.args.number c.in_ok-next.next c.args.world.now c.deliver_next.new.self c.in_ok-next.ensures.delivers k.2)

pub returns-in-None : goal.returns-in-None
returns-in-None c = λ volume all before. after_next volume all c.args.number c.in_ok-next.next c.args.world.now c.deliver_next.new.self c.in_ok-next.ensures.delivers before

pub returns-else-shown : goal.returns-else-shown
returns-else-shown c = λ volume all before. after_next volume all c.args.number c.in_ok-next.next c.args.world.now c.deliver_next.new.self c.in_ok-next.ensures.delivers before

pub returns-in_ok-put_delivery-in-Some : goal.returns-in_ok-put_delivery-in-Some
returns-in_ok-put_delivery-in-Some c = λ volume all before. after_next volume all c.args.number c.in_ok-next.next c.args.world.now c.deliver_next.new.self c.in_ok-next.ensures.delivers before
