-- How a schedule's text is read, from the left: one function for each rule.
use Rattle.std.specs.Prelude.{ℕ, ◌+◌, ◌*◌, ◌==◌, ◌%◌, ◌&&◌, Bool, true, nat_lt, nat_le, if◌then◌else◌, List, [], ◌∷◌, ◌++◌, length, codes, Option, None, Some, Result, Ok, Err}
use Rattle.std.specs.Option.{ok_or, unwrap_or}
use Rattle.std.specs.Str.{bytes_eq}
use Rattle.salus_types.specs.Volume.{Shape, regions, blocks}
use Rattle.salus_types.specs.declared.names.NodeName.{NodeName}
use Rattle.salus_types.specs.declared.names.Sender.{Sender}
use Rattle.salus_types.specs.declared.names.Sender.TheVariants as sender
use Rattle.salus_types.specs.declared.records.Write.{Write}
use Rattle.text_words.specs.Reading.{front, past, lines_left, words_of, number_of, byte_of, block_of, is_hex, lie_bytes_of, key_of}
use Rattle.schedule_text.specs.declared.error.Cause.{Cause}
use Rattle.schedule_text.specs.declared.error.Cause.TheVariants as cause
use Rattle.schedule_text.specs.declared.error.ScheduleError.{ScheduleError}
use Rattle.schedule_text.specs.declared.keyword.Keyword.{Keyword}
use Rattle.schedule_text.specs.declared.keyword.Keyword.TheVariants as keyword
use Rattle.schedule_text.specs.declared.schedule.Volume.{Volume}
use Rattle.schedule_text.specs.declared.schedule.Event.{Event}
use Rattle.schedule_text.specs.declared.schedule.Event.TheVariants as event
use Rattle.schedule_text.specs.declared.schedule.Schedule.{Schedule}
use Rattle.schedule_text.specs.Grammar.{session_of}

-- ---- single words

-- a node of the volume
abbrev pub named : Shape → Option ℕ → Option ℕ → Option NodeName
named shape None replica = None
named shape (Some g) None = None
named shape (Some g) (Some r) = if nat_lt g (regions shape) && nat_lt r shape.replicas then Some (record { region = g; replica = r }) else None

-- two numbers with a point between them
unfoldable pub node_of : Shape → List ℕ → Option NodeName
node_of shape word = named shape (number_of (front 46 word)) (number_of (past 46 word))

-- a node as a party
abbrev pub as_party : Option NodeName → Option Sender
as_party None = None
as_party (Some name) = Some (sender.Node name)

unfoldable pub party_of : Shape → List ℕ → Option Sender
party_of shape word = if bytes_eq word (codes "client") then Some sender.Client else as_party (node_of shape word)

-- 0 doesn't count
abbrev pub counted : Option ℕ → Result ℕ Cause
counted None = Err cause.Number
counted (Some n) = if n == 0 then Err cause.Number else Ok n

abbrev pub number_word : List ℕ → Result ℕ Cause
number_word word = ok_or (number_of word) cause.Number

abbrev pub count_word : List ℕ → Result ℕ Cause
count_word word = counted (number_of word)

abbrev pub node_word : Shape → List ℕ → Result NodeName Cause
node_word shape word = ok_or (node_of shape word) cause.Node

abbrev pub party_word : Shape → List ℕ → Result Sender Cause
party_word shape word = ok_or (party_of shape word) cause.Node

abbrev pub fill_word : List ℕ → Result ℕ Cause
fill_word word = ok_or (byte_of word) cause.Hex

abbrev pub bytes_word : List ℕ → Result (List ℕ) Cause
bytes_word word = ok_or (lie_bytes_of word) cause.Hex

-- hexadecimal that is no block has another length
abbrev pub block_cause : List ℕ → Cause
block_cause word = if is_hex word then cause.Size else cause.Hex

abbrev pub block_word : ℕ → List ℕ → Result (List ℕ) Cause
block_word size word = ok_or (block_of size word) (block_cause word)

-- ---- events

-- what comes after something that is read, if it is there
abbrev pub after : {X Y E : Type 0} → Result X E → (X → Result Y E) → Result Y E
after (Err e) next = Err e
after (Ok x) next = next x

-- no word stands behind
abbrev pub bare : Event → List (List ℕ) → Result Event Cause
bare e [] = Ok e
bare e (word ∷ words) = Err cause.Word

-- one number
abbrev pub one_number : List (List ℕ) → Result ℕ Cause
one_number [] = Err cause.Word
one_number (word ∷ []) = number_word word
one_number (word ∷ other ∷ words) = Err cause.Word

abbrev pub replace_of : Shape → List (List ℕ) → Result Event Cause
replace_of shape [] = Err cause.Word
replace_of shape (node ∷ []) = after (node_word shape node) (λ name. Ok (event.Replace name))
replace_of shape (node ∷ other ∷ words) = Err cause.Word

abbrev pub tick_of : Shape → List (List ℕ) → Result Event Cause
tick_of shape [] = Err cause.Word
tick_of shape (party ∷ []) = after (party_word shape party) (λ who. Ok (event.Tick who))
tick_of shape (party ∷ other ∷ words) = Err cause.Word

abbrev pub fail_of : Shape → List (List ℕ) → Result Event Cause
fail_of shape [] = Err cause.Word
fail_of shape (node ∷ []) = Err cause.Word
fail_of shape (node ∷ call ∷ []) = after (node_word shape node) (λ name. after (count_word call) (λ n. Ok (event.Fail name n)))
fail_of shape (node ∷ call ∷ other ∷ words) = Err cause.Word

abbrev pub reassign_of : List (List ℕ) → Result Event Cause
reassign_of [] = Err cause.Word
reassign_of (session ∷ []) = Err cause.Word
reassign_of (session ∷ region ∷ []) = after (number_word session) (λ e. after (number_word region) (λ g. Ok (event.Reassign e g)))
reassign_of (session ∷ region ∷ other ∷ words) = Err cause.Word

abbrev pub lie_of : Shape → List (List ℕ) → Result Event Cause
lie_of shape [] = Err cause.Word
lie_of shape (sent_by ∷ []) = Err cause.Word
lie_of shape (sent_by ∷ sent_to ∷ []) = Err cause.Word
lie_of shape (sent_by ∷ sent_to ∷ bytes ∷ []) =
    after (party_word shape sent_by) (λ a. after (party_word shape sent_to) (λ b. after (bytes_word bytes) (λ x. Ok (event.Lie a b x))))
lie_of shape (sent_by ∷ sent_to ∷ bytes ∷ other ∷ words) = Err cause.Word

abbrev pub crash_of : Shape → List (List ℕ) → Result Event Cause
crash_of shape [] = Err cause.Word
crash_of shape (node ∷ []) = Err cause.Word
crash_of shape (node ∷ keep ∷ []) = Err cause.Word
crash_of shape (node ∷ keep ∷ fill ∷ []) =
    after (node_word shape node) (λ name. after (number_word keep) (λ k. after (fill_word fill) (λ b. Ok (event.Crash name k b))))
crash_of shape (node ∷ keep ∷ fill ∷ other ∷ words) = Err cause.Word

abbrev pub stop_of : List (List ℕ) → Result Event Cause
stop_of [] = Err cause.Word
stop_of (message ∷ []) = Err cause.Word
stop_of (message ∷ calls ∷ []) = Err cause.Word
stop_of (message ∷ calls ∷ keep ∷ []) = Err cause.Word
stop_of (message ∷ calls ∷ keep ∷ fill ∷ []) =
    after (number_word message) (λ m. after (number_word calls) (λ c. after (number_word keep) (λ k. after (fill_word fill) (λ b. Ok (event.Stop m c k b)))))
stop_of (message ∷ calls ∷ keep ∷ fill ∷ other ∷ words) = Err cause.Word

-- a number and a block
abbrev pub pair_of : ℕ → List ℕ → List ℕ → Result Write Cause
pair_of size number block = after (number_word number) (λ n. after (block_word size block) (λ x. Ok (record { block = n; bytes = x })))

-- the writes so far, and those after them
abbrev pub with_writes : List Write → Result (List Write) Cause → Result (List Write) Cause
with_writes writes (Err c) = Err c
with_writes writes (Ok more) = Ok (writes ++ more)

-- pairs of number and block
unfoldable pub writes_of : ℕ → List (List ℕ) → Result (List Write) Cause
writes_of size [] = Ok []
writes_of size (number ∷ []) = Err cause.Word
writes_of size (number ∷ block ∷ words) =
    after (pair_of size number block) (λ w. with_writes (w ∷ []) (writes_of size words))

-- at most 64 pairs, and at least one
unfoldable pub write_of : ℕ → List (List ℕ) → Result Event Cause
write_of size words =
    if nat_lt 128 (length words) then Err cause.Long
    else if length words == 0 then Err cause.Empty
    else if length words % 2 == 1 then Err cause.Word
    else after (writes_of size words) (λ batch. Ok (event.Write batch))

-- the event of a line's first word, by the words behind it
unfoldable pub event_of : Shape → Keyword → List (List ℕ) → Result Event Cause
event_of shape keyword.Write words = write_of shape.block words
event_of shape keyword.Read words = after (one_number words) (λ n. Ok (event.Read n))
event_of shape keyword.Barrier words = bare event.Barrier words
event_of shape keyword.Deliver words = after (one_number words) (λ n. Ok (event.Deliver n))
event_of shape keyword.Settle words = after (one_number words) (λ n. Ok (event.Settle n))
event_of shape keyword.Drop words = after (one_number words) (λ n. Ok (event.Drop n))
event_of shape keyword.Lie words = lie_of shape words
event_of shape keyword.Stop words = stop_of words
event_of shape keyword.Crash words = crash_of shape words
event_of shape keyword.Fail words = fail_of shape words
event_of shape keyword.Replace words = replace_of shape words
event_of shape keyword.ClientCrash words = bare event.ClientCrash words
event_of shape keyword.Restart words = after (one_number words) (λ n. Ok (event.Restart n))
event_of shape keyword.Reassign words = reassign_of words
event_of shape keyword.Tick words = tick_of shape words

-- the first word of what befalls a server or a client
unfoldable pub outage_keyword : List ℕ → Option Keyword
outage_keyword word =
    if bytes_eq word (codes "crash") then Some keyword.Crash
    else if bytes_eq word (codes "fail") then Some keyword.Fail
    else if bytes_eq word (codes "replace") then Some keyword.Replace
    else if bytes_eq word (codes "clientcrash") then Some keyword.ClientCrash
    else if bytes_eq word (codes "tick") then Some keyword.Tick
    else None

-- the first word of what befalls a message, or one of those
unfoldable pub message_keyword : List ℕ → Option Keyword
message_keyword word =
    if bytes_eq word (codes "deliver") then Some keyword.Deliver
    else if bytes_eq word (codes "settle") then Some keyword.Settle
    else if bytes_eq word (codes "drop") then Some keyword.Drop
    else if bytes_eq word (codes "lie") then Some keyword.Lie
    else if bytes_eq word (codes "stop") then Some keyword.Stop
    else outage_keyword word

-- the first word of a request, or one of those
unfoldable pub keyword_of : List ℕ → Option Keyword
keyword_of word =
    if bytes_eq word (codes "write") then Some keyword.Write
    else if bytes_eq word (codes "read") then Some keyword.Read
    else if bytes_eq word (codes "barrier") then Some keyword.Barrier
    else if bytes_eq word (codes "restart") then Some keyword.Restart
    else if bytes_eq word (codes "reassign") then Some keyword.Reassign
    else message_keyword word

-- the event of a line whose first word is known
abbrev pub known_event : Shape → Option Keyword → List (List ℕ) → Result Event Cause
known_event shape None words = Err cause.Word
known_event shape (Some k) words = event_of shape k words

abbrev pub words_event : Shape → List (List ℕ) → Result Event Cause
words_event shape [] = Err cause.Word
words_event shape (name ∷ words) = known_event shape (keyword_of name) words

-- a line of more words than any event has
abbrev pub excess_cause : List ℕ → Cause
excess_cause line = if bytes_eq (front 32 line) (codes "write") then cause.Long else cause.Word

-- the event of a line
unfoldable pub line_event : Shape → List ℕ → Result Event Cause
line_event shape line = if nat_lt 129 (length (words_of line)) then Err (excess_cause line) else words_event shape (words_of line)

-- ---- the order of sessions

-- the session that an event opens is above the latest one
abbrev pub is_above : ℕ → Option ℕ → Bool
is_above latest None = true
is_above latest (Some session) = nat_lt latest session

-- the latest session from then on
abbrev pub latest_after : ℕ → Event → ℕ
latest_after latest e = unwrap_or (session_of e) latest

abbrev pub ordered : ℕ → Result Event Cause → Result Event Cause
ordered latest (Err c) = Err c
ordered latest (Ok e) = if is_above latest (session_of e) then Ok e else Err cause.Order

-- the event of a line behind that session
unfoldable pub next_event : Shape → ℕ → List ℕ → Result Event Cause
next_event shape latest line = ordered latest (line_event shape line)

-- ---- the volume

-- within the limits of a volume
abbrev pub is_volume : Shape → Bool
is_volume s =
    nat_le s.regions_log 4 && (nat_le s.height 10 && (nat_le 1 s.block && (nat_le s.block 4096
    && (nat_le 1 s.replicas && (nat_le s.replicas 5 && nat_le (blocks s * s.block) 1048576)))))

-- the shape that four numbers give
unfoldable pub shape_of : ℕ → ℕ → ℕ → ℕ → Option Shape
shape_of regions_log height block replicas =
    if is_volume (record { regions_log = regions_log; height = height; block = block; replicas = replicas })
    then Some (record { regions_log = regions_log; height = height; block = block; replicas = replicas }) else None

-- the shape, if all four are numbers
abbrev pub shape_from : Option ℕ → Option ℕ → Option ℕ → Option ℕ → Option Shape
shape_from None height block replicas = None
shape_from (Some a) None block replicas = None
shape_from (Some a) (Some b) None replicas = None
shape_from (Some a) (Some b) (Some c) None = None
shape_from (Some a) (Some b) (Some c) (Some d) = shape_of a b c d

-- the volume of a shape and a key
abbrev pub keyed : Option Shape → Option (List ℕ) → Option Volume
keyed None key = None
keyed (Some shape) None = None
keyed (Some shape) (Some key) = Some (record { geometry = shape; key = key })

abbrev pub volume_words : List (List ℕ) → Option Volume
volume_words [] = None
volume_words (name ∷ []) = None
volume_words (name ∷ a ∷ []) = None
volume_words (name ∷ a ∷ b ∷ []) = None
volume_words (name ∷ a ∷ b ∷ c ∷ []) = None
volume_words (name ∷ a ∷ b ∷ c ∷ d ∷ []) = None
volume_words (name ∷ a ∷ b ∷ c ∷ d ∷ key ∷ []) =
    if bytes_eq name (codes "volume") then keyed (shape_from (number_of a) (number_of b) (number_of c) (number_of d)) (key_of key) else None
volume_words (name ∷ a ∷ b ∷ c ∷ d ∷ key ∷ other ∷ words) = None

-- the volume of a line, which has six words
unfoldable pub volume_of : List ℕ → Option Volume
volume_of line = if length (words_of line) == 6 then volume_words (words_of line) else None

-- ---- the whole text

-- the line with that number is wrong
abbrev pub at_line : {X : Type 0} → ℕ → Result X Cause → Result X ScheduleError
at_line number (Err c) = Err (record { line = number; cause = c })
at_line number (Ok x) = Ok x

-- the event of a line with that number; only 65,536 lines behind the first are events
abbrev pub numbered_event : Shape → ℕ → ℕ → List ℕ → Result Event ScheduleError
numbered_event shape latest number line = at_line number (if nat_lt 65537 number then Err cause.Long else next_event shape latest line)

-- the events so far, and those after them
abbrev pub after_events : List Event → Result (List Event) ScheduleError → Result (List Event) ScheduleError
after_events events (Err wrong) = Err wrong
after_events events (Ok more) = Ok (events ++ more)

-- the events of these lines, of which the first has that number; otherwise the first wrong line
unfoldable pub events_from : Shape → ℕ → ℕ → List (List ℕ) → Result (List Event) ScheduleError
events_from shape latest number [] = Ok []
events_from shape latest number (line ∷ lines) =
    after (numbered_event shape latest number line) (λ e. after_events (e ∷ []) (events_from shape (latest_after latest e) (number + 1) lines))

-- the volume of line 1, and the events of the lines after it
abbrev pub after_volume : Option Volume → List (List ℕ) → Result Schedule ScheduleError
after_volume None lines = Err (record { line = 1; cause = cause.Volume })
after_volume (Some volume) lines =
    after (events_from volume.geometry 1 2 lines) (λ events. Ok (record { volume = volume; events = events }))

-- what the text means, or its first wrong line; line 0 is a text that is too long
unfoldable pub schedule_of : List ℕ → Result Schedule ScheduleError
schedule_of text =
    if nat_lt 67108864 (length text) then Err (record { line = 0; cause = cause.Long })
    else after_volume (volume_of (front 10 text)) (lines_left (past 10 text))
