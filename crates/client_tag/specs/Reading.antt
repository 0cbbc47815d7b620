-- Records and bases read from left to right.
use Rattle.std.specs.Prelude.{ℕ, zero, suc, List, None}
use Rattle.salus_types.specs.declared.records.Header.{Header}
use Rattle.salus_types.specs.declared.records.PlaceWrite.{PlaceWrite}
use Rattle.salus_types.specs.declared.records.Record.{Record}
use Rattle.salus_types.specs.declared.records.Base.{Base}
use Rattle.salus_codec.specs.Reading.{Field, ◌>>=◌, bytes_at, u8_at, u16_at, u32_at, u64_at}
use Rattle.salus_codec.specs.Formats.{both, made, within, sized, times, counted}

-- version, session, seq and region
unfoldable pub batch_at : List ℕ → Field (ℕ × (ℕ × (ℕ × ℕ)))
batch_at = both (within 1 1 u8_at) (both u64_at (both u64_at u16_at))

-- previous and leader_before
unfoldable pub before_at : List ℕ → Field (ℕ × ℕ)
before_at = both u64_at u16_at

unfoldable pub numbers_at : List ℕ → Field (List ℕ)
numbers_at = counted (within 1 16 u8_at) u64_at

unfoldable pub regions_at : List ℕ → Field (List ℕ)
regions_at = counted (within 1 16 u8_at) u16_at

-- fronts, touched, root and top
unfoldable pub after_at : List ℕ → Field (List ℕ × (List ℕ × (List ℕ × List ℕ)))
after_at = both numbers_at (both regions_at (both (bytes_at 32) (bytes_at 32)))

unfoldable pub header_at : List ℕ → Field Header
header_at = made (λ x. record {
  version = x.0.0;
  session = x.0.1.0;
  seq = x.0.1.1.0;
  region = x.0.1.1.1;
  previous = x.1.0.0;
  leader_before = x.1.0.1;
  fronts = x.1.1.0;
  touched = x.1.1.1.0;
  root = x.1.1.1.1.0;
  top = x.1.1.1.1.1;
})
    (both batch_at (both before_at after_at))

unfoldable pub write_at : List ℕ → Field PlaceWrite
write_at = made (λ x. record { place = x.0; bytes = x.1 }) (both u16_at (sized (within 1 4096 u16_at)))

unfoldable pub writes_at : List ℕ → Field (List PlaceWrite)
writes_at = counted (within 0 64 u8_at) write_at

unfoldable pub record_at : List ℕ → Field Record
record_at = made (λ x. record { header = x.0; writes = x.1.0; run = None; tag = x.1.1 }) (both header_at (both writes_at (bytes_at 32)))

-- the size is 0 exactly where there is no block
abbrev pub least_size : ℕ → ℕ
least_size zero = 0
least_size (suc n) = 1

abbrev pub most_size : ℕ → ℕ
most_size zero = 0
most_size (suc n) = 4096

unfoldable pub blocks_at : List ℕ → Field (List (List ℕ))
blocks_at bytes =
    within 0 4096 u32_at bytes >>= λ count.
    within (least_size count.0) (most_size count.0) u16_at count.1 >>= λ size.
    times (bytes_at size.0) count.0 size.1

unfoldable pub base_at : List ℕ → Field Base
base_at = made (λ x. record { rec = x.0; blocks = x.1 }) (both record_at blocks_at)
