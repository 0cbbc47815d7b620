use Rattle.std.proofs.Common.{take, refl}
use Rattle.salus_hash.specs.Hmac.{keyed, hmac}
use Rattle.salus_hash.proofs.keyed_hash.HmacKey.hmac.Goals as goal

pub returns : goal.returns
unfolding hmac
returns c =
    let key = take c.self.inside.len c.self.inside.key in
    let inner = c.digest_after-inner.ensures (keyed 0x36 key) c.self.invariant.1.0 in
    let outer = c.digest_after.ensures (keyed 0x5c key) c.self.invariant.1.1 in
    rw (c.from_bytes.ensures, ← c.self.view_is, outer, c.as_slice.ensures, inner) refl
