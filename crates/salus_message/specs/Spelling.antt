-- How messages are spelled: the byte of the kind, and the fields in order.
use Rattle.std.specs.Prelude.{ℕ, List, ◌∷◌, ◌++◌, length}
use Rattle.std.specs.List.{flat_map}
use Rattle.salus_types.specs.declared.records.Record.{Record}
use Rattle.salus_types.specs.declared.records.Base.{Base}
use Rattle.salus_codec.specs.Spelling.{be1, be2, be4, be8}
use Rattle.client_tag.specs.Spelling.{record_bytes, joined, blocks_bytes, base_bytes}
use Rattle.salus_message.specs.declared.small.Prepared.{Prepared}
use Rattle.salus_message.specs.declared.small.Committed.{Committed}
use Rattle.salus_message.specs.declared.small.Ask.{Ask}
use Rattle.salus_message.specs.declared.small.Dump.{Dump}
use Rattle.salus_message.specs.declared.replies.Answer.{Answer}
use Rattle.salus_message.specs.declared.carried.Gathered.{Gathered}
use Rattle.salus_message.specs.declared.carried.Dumped.{Dumped}
use Rattle.salus_message.specs.declared.wire.Message.{Message}
use Rattle.salus_message.specs.declared.wire.Message.TheVariants as message
use Rattle.salus_message.specs.Kinds.{byte_of, kind_of}

unfoldable pub prepared_bytes : Prepared → List ℕ
prepared_bytes m = be8 m.session ++ (be8 m.seq ++ (be2 m.region ++ m.root))

unfoldable pub committed_bytes : Committed → List ℕ
committed_bytes m = be8 m.session ++ be8 m.front

-- session, read, block and at, in a question and in its answer
unfoldable pub asked_bytes : ℕ → ℕ → ℕ → ℕ → List ℕ
asked_bytes session read block as_of = be8 session ++ (be8 read ++ (be4 block ++ be8 as_of))

unfoldable pub ask_bytes : Ask → List ℕ
ask_bytes m = asked_bytes m.session m.read m.block m.at

-- a count of one byte, and as many digests
unfoldable pub path_bytes : List (List ℕ) → List ℕ
path_bytes path = be1 (length path) ++ joined path

unfoldable pub answer_bytes : Answer → List ℕ
answer_bytes m = asked_bytes m.session m.read m.block m.at ++ ((be2 (length m.bytes) ++ m.bytes) ++ path_bytes m.path)

-- a count of four bytes, and as many bases
unfoldable pub bases_bytes : List Base → List ℕ
bases_bytes bases = be4 (length bases) ++ flat_map base_bytes bases

-- a count of four bytes, and as many records
unfoldable pub records_bytes : List Record → List ℕ
records_bytes records = be4 (length records) ++ flat_map record_bytes records

unfoldable pub gathered_bytes : Gathered → List ℕ
gathered_bytes m = be8 m.session ++ (be8 m.held.session ++ (bases_bytes m.held.bases ++ records_bytes m.held.parts))

unfoldable pub dump_bytes : Dump → List ℕ
dump_bytes m = be8 m.session ++ be2 m.region

unfoldable pub dumped_bytes : Dumped → List ℕ
dumped_bytes m = be8 m.session ++ (be2 m.region ++ (be8 m.at ++ blocks_bytes m.blocks))

abbrev pub fields_bytes : Message → List ℕ
fields_bytes (message.Part m) = record_bytes m.rec
fields_bytes (message.Prepared m) = prepared_bytes m
fields_bytes (message.Committed m) = committed_bytes m
fields_bytes (message.Ask m) = ask_bytes m
fields_bytes (message.Answer m) = answer_bytes m
fields_bytes (message.Gather m) = be8 m.session
fields_bytes (message.Gathered m) = gathered_bytes m
fields_bytes (message.Stage m) = base_bytes m.base
fields_bytes (message.Staged m) = be8 m.session
fields_bytes (message.Switch m) = be8 m.session
fields_bytes (message.Switched m) = be8 m.session
fields_bytes (message.Dump m) = dump_bytes m
fields_bytes (message.Dumped m) = dumped_bytes m

abbrev pub message_bytes : Message → List ℕ
message_bytes m = byte_of (kind_of m) ∷ fields_bytes m
