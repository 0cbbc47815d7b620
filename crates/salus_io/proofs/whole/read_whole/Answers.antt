use Rattle.std.proofs.Common.{◌<◌, length, refl, ◌∙◌, arith}
use Rattle.salus_io.proofs.Joining.{Consumes-piece, ConsumesSome-trans, IfSome-from_end, IfSome-from_more}
use Rattle.salus_io.proofs.whole.read_whole.Goals as goal

pub returns-in-Ok-eq0-clause-whole : goal.returns-in-Ok-eq0-clause-whole
returns-in-Ok-eq0-clause-whole g c =
    let read = c.in-Ok-eq0.ensures in
    IfSome-from_end _ _ _ (Consumes-piece _ _ _ _ _ _ c.pieces.invariant.taken read.taken read.text) (read.end c.in-Ok-eq0.field-0-test)

pub returns-in-Ok-eq0-clause-taken : goal.returns-in-Ok-eq0-clause-taken
returns-in-Ok-eq0-clause-taken g c =
    let read = c.in-Ok-eq0.ensures in
    (c.read_piece.new.text.items, Consumes-piece _ _ _ _ _ _ c.pieces.invariant.taken read.taken read.text)

pub returns-in-Ok-eq0-clause-sure : goal.returns-in-Ok-eq0-clause-sure
returns-in-Ok-eq0-clause-sure g c = λ e. c.in-Ok-eq0.ensures.sure (c.pieces.invariant.sure e)

pub pieces-preserved : goal.pieces-preserved
pieces-preserved g c =
    let read = c.in-Ok-read_piece.ensures in
    let before = c.pieces.invariant in
    record {
      room = before.room;
      taken = Consumes-piece _ _ _ _ _ _ before.taken read.taken read.text;
      counted = read.cause ∙ before.counted;
      sure = λ e. (read.sure (before.sure e)).0;
    }

pub returns-in-Err-read_piece-clause-taken : goal.returns-in-Err-read_piece-clause-taken
returns-in-Err-read_piece-clause-taken g c = ConsumesSome-trans _ _ _ _ c.pieces.invariant.taken c.in-Err-read_piece.ensures.moves

pub returns-in-Err-read_piece-clause-sure : goal.returns-in-Err-read_piece-clause-sure
returns-in-Err-read_piece-clause-sure g c = λ e. c.in-Err-read_piece.ensures.sure (c.pieces.invariant.sure e)

pub returns-clause-longer : goal.returns-clause-longer
returns-clause-longer g c =
    let more : c.args.limit < length c.pieces.text.items = omega (arith, c.pieces.text.ok.0) in
    λ _. IfSome-from_more _ _ _ (c.pieces.text.items, more, c.pieces.invariant.taken)

pub returns-clause-sure : goal.returns-clause-sure
returns-clause-sure g c = λ e. (c.pieces.invariant.sure e, refl)
