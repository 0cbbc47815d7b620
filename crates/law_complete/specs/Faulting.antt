-- Faults: a read or a write ends without a block, since every replica of the block's group has a strike.
use Rattle.std.specs.Prelude.{◌≡◌, List}
use Rattle.std.specs.List.{AllByRecursion}
use Rattle.salus_types.specs.Volume.{Shape}
use Rattle.salus_types.specs.declared.names.NodeName.{NodeName}
use Rattle.printed_lines.specs.declared.line.Line.{Line}
use Rattle.printed_lines.specs.declared.line.Line.TheVariants as line
use Rattle.volume_model.specs.Contents.{region_of}
use Rattle.salus_model.specs.Hearing.{Past}

-- the line is a fault of a block of that server's region
abbrev pub IsFaultAt : Shape → NodeName → Line → Type 0
IsFaultAt shape name (line.Fault v b strikes) = region_of shape b ≡ name.region
IsFaultAt shape name other = ⊥

-- no line of a history is one
abbrev pub HasNoFaultAt : Shape → NodeName → List Past → Type 0
HasNoFaultAt shape name history = AllByRecursion (λ p. AllByRecursion (λ l. IsFaultAt shape name l → ⊥) p.lines) history
