-- The text of the printed lines.
use Rattle.std.specs.Prelude.{ℕ, List, [], ◌∷◌, ◌++◌, Option, None, Some, codes, decimal}
use Rattle.std.specs.List.{flat_map}
use Rattle.salus_types.specs.declared.strike.Strike.{Strike}
use Rattle.salus_types.specs.declared.strike.Strike.TheVariants as strike
use Rattle.printed_lines.specs.declared.line.Line.{Line}
use Rattle.printed_lines.specs.declared.line.Line.TheVariants as line
use Rattle.printed_lines.specs.declared.line.RequestRefusal.{RequestRefusal}
use Rattle.printed_lines.specs.declared.line.RequestRefusal.TheVariants as refusal
use Rattle.text_words.specs.Writing.{hex_text, block_text}

-- what a replica did: the two digests, or the two numbers, with : between them
unfoldable pub strike_text : Strike → List ℕ
strike_text (strike.Bad held got) = hex_text held ++ codes ":" ++ hex_text got
strike_text (strike.Past at number) = codes "past:" ++ decimal at ++ codes ":" ++ decimal number

-- the strike of one replica; - stands for a replica without one, which no line of a run has
unfoldable pub replica_text : Option Strike → List ℕ
replica_text None = codes " -"
replica_text (Some s) = codes " " ++ strike_text s

-- why a request is refused
unfoldable pub cause_text : RequestRefusal → List ℕ
cause_text refusal.Closed = codes " closed"
cause_text refusal.Open = codes " open"
cause_text (refusal.Range number) = codes " range " ++ decimal number
cause_text (refusal.Full limit) = codes " full " ++ decimal limit
cause_text (refusal.Inflight submitted acked reads) = codes " inflight " ++ decimal submitted ++ codes " " ++ decimal acked ++ codes " " ++ decimal reads

-- a line without its end
unfoldable pub words_text : Line → List ℕ
words_text (line.Submit event seq) = codes "submit " ++ decimal event ++ codes " " ++ decimal seq
words_text (line.Ack seq) = codes "ack " ++ decimal seq
words_text (line.Read event block bytes) = codes "read " ++ decimal event ++ codes " " ++ decimal block ++ codes " " ++ block_text bytes
words_text (line.Fault event block strikes) = codes "fault " ++ decimal event ++ codes " " ++ decimal block ++ flat_map replica_text strikes
words_text (line.Barrier event seq) = codes "barrier " ++ decimal event ++ codes " " ++ decimal seq
words_text (line.Refused event cause) = codes "refused " ++ decimal event ++ cause_text cause
words_text (line.Skip event message) = codes "skip " ++ decimal event ++ codes " " ++ decimal message
words_text (line.Stage session from seq) = codes "stage " ++ decimal session ++ codes " from " ++ decimal from ++ codes " " ++ decimal seq
words_text (line.Open session) = codes "open " ++ decimal session
words_text (line.Lost session) = codes "lost " ++ decimal session

-- a line with its end, the byte 0a
unfoldable pub line_text : Line → List ℕ
line_text l = words_text l ++ 10 ∷ []

-- lines, one after another
abbrev pub text_of : List Line → List ℕ
text_of lines = flat_map line_text lines
