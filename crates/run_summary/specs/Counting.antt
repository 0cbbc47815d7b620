-- What a run's summary says: how many events there are, and how many lines of each kind.
use Rattle.std.specs.Prelude.{ℕ, Bool, true, false, List, [], ◌∷◌, ◌++◌, length, filter, codes, decimal}
use Rattle.std.specs.List.{flat_map}
use Rattle.printed_lines.specs.declared.line.Line.{Line}
use Rattle.printed_lines.specs.declared.line.Line.TheVariants as line
use Rattle.run_summary.specs.declared.counting.LineKind.{LineKind}
use Rattle.run_summary.specs.declared.counting.LineKind.TheVariants as kind

-- ---- of which kind a line is

abbrev pub is_submit : Line → Bool
is_submit (line.Submit event seq) = true
is_submit other = false

abbrev pub is_ack : Line → Bool
is_ack (line.Ack seq) = true
is_ack other = false

abbrev pub is_read : Line → Bool
is_read (line.Read event block bytes) = true
is_read other = false

abbrev pub is_fault : Line → Bool
is_fault (line.Fault event block strikes) = true
is_fault other = false

abbrev pub is_barrier : Line → Bool
is_barrier (line.Barrier event seq) = true
is_barrier other = false

abbrev pub is_refused : Line → Bool
is_refused (line.Refused event cause) = true
is_refused other = false

abbrev pub is_of : LineKind → Line → Bool
is_of kind.Submit l = is_submit l
is_of kind.Ack l = is_ack l
is_of kind.Read l = is_read l
is_of kind.Fault l = is_fault l
is_of kind.Barrier l = is_barrier l
is_of kind.Refused l = is_refused l

-- ---- the counts, and their text

unfoldable pub count_of : LineKind → List Line → ℕ
count_of k lines = length (filter (is_of k) lines)

-- the word of a kind, with a space behind it
abbrev pub kind_word : LineKind → List ℕ
kind_word kind.Submit = codes "submit "
kind_word kind.Ack = codes "ack "
kind_word kind.Read = codes "read "
kind_word kind.Fault = codes "fault "
kind_word kind.Barrier = codes "barrier "
kind_word kind.Refused = codes "refused "

-- a word, a number, and the line's end
abbrev pub count_line : List ℕ → ℕ → List ℕ
count_line word count = word ++ decimal count ++ 10 ∷ []

-- the kinds, in the order of their lines
abbrev pub each_kind : List LineKind
each_kind = kind.Submit ∷ kind.Ack ∷ kind.Read ∷ kind.Fault ∷ kind.Barrier ∷ kind.Refused ∷ []

-- the events of the schedule, then the lines of each kind
abbrev pub summary_text : ℕ → List Line → List ℕ
summary_text events lines = count_line (codes "events ") events ++ flat_map (λ k. count_line (kind_word k) (count_of k lines)) each_kind
