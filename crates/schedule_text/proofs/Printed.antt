-- What is printed is a text of the schedule.
use Rattle.std.proofs.Common.{lit<, ◌≡◌, ℕ, ◌^◌, ◌<◌, ◌≤◌, eqb, List, [], ◌∷◌, ◌++◌, length, map, refl, sym, ap, subst, arith, inl, inr, append-nil}
use Rattle.std.specs.Prelude.{codes, decimal}
use Rattle.std.specs.List.{AllByRecursion, AllZip, flat_map, join_with_byte}
use Rattle.std.proofs.lemmas.Bool.{ne_eqb}
use Rattle.std.proofs.lemmas.List.Folds.{flat_map-map}
use Rattle.std.proofs.lemmas.Nat.{pow_below}
use Rattle.salus_types.specs.Volume.{Shape, IsVolume, regions}
use Rattle.salus_types.specs.declared.names.NodeName.{NodeName}
use Rattle.salus_types.specs.declared.names.Sender.{Sender}
use Rattle.salus_types.specs.declared.names.Sender.TheVariants as sender
use Rattle.text_words.specs.Grammar.{Lacks, ended, IsNumber, IsHex, IsLieBytes, IsWords, IsLines}
use Rattle.text_words.specs.Writing.{hex_text}
use Rattle.text_words.proofs.Settled.{pick_false}
use Rattle.text_words.proofs.Written.{pair-written, hex-written, block-written, lines-written, Above, above_lacks, above_append, above_lower, above_by, number_above, hex_above, pair_above, block_above, lie_above}
use Rattle.schedule_text.specs.declared.keyword.Keyword.{Keyword}
use Rattle.schedule_text.specs.declared.keyword.Keyword.TheVariants as keyword
use Rattle.schedule_text.specs.declared.schedule.Volume.{Volume}
use Rattle.schedule_text.specs.declared.schedule.Event.{Event}
use Rattle.schedule_text.specs.declared.schedule.Schedule.{Schedule}
use Rattle.schedule_text.specs.Grammar.{IsNode, IsParty, Value, Number, Count, Node, Party, Block, Bytes, Fill, Spells, spelling, first_word, values, IsEventLine, IsVolumeLine, IsSchedule}
use Rattle.schedule_text.specs.Limits.{IsOfVolume, IsPartyOfVolume, IsWithin, IsEventWithin, IsWithinLimits}
use Rattle.schedule_text.specs.Printing.{node_text, party_text, lie_text, value_text, spaced, event_text, volume_text, printed, AreBytes, HasSize, HasBytes}

-- ---- a value's word

number-spelled : (n : ℕ) → n < 2 ^ 64 → IsNumber (decimal n) n
number-spelled n fits = record { spelled = refl; fits = fits }

small_fits : (n : ℕ) → n < 4097 → n < 2 ^ 64
small_fits n small = omega (arith, small, (let big : 4097 < 2 ^ 64 = lit< tt in big))

few_regions : (shape : Shape) → IsVolume shape → regions shape < 32
few_regions shape volume = let few = volume.few_regions in pow_below shape.regions_log 5 (omega (arith, few))

node-spelled : (shape : Shape) (name : NodeName) → IsVolume shape → IsOfVolume shape name → IsNode shape (node_text name) name
node-spelled shape name volume within =
    let few = few_regions shape volume in
    let small = volume.small_groups in
    let region = within.0 in
    let replica = within.1 in
    record {
      region = decimal name.region;
      replica = decimal name.replica;
      spelled = refl;
      is_region = number-spelled name.region (small_fits name.region (omega (arith, few, region)));
      is_replica = number-spelled name.replica (small_fits name.replica (omega (arith, small, replica)));
      in_volume = within.0;
      in_group = within.1;
    }

party-spelled : (shape : Shape) (who : Sender) → IsVolume shape → IsPartyOfVolume shape who → IsParty shape (party_text who) who
party-spelled shape sender.Client volume within = refl
party-spelled shape (sender.Node name) volume within = node-spelled shape name volume within

lie-spelled : (bytes : List ℕ) → AreBytes bytes → IsLieBytes (lie_text bytes) bytes
lie-spelled [] w = inr (record { spelled = refl; empty = refl })
lie-spelled (b ∷ bytes) w =
    let there : 0 < length (b ∷ bytes) = omega arith in
    inl (subst (λ word. IsHex word (b ∷ bytes)) (sym (pick_false (eqb (length (b ∷ bytes)) 0) _ _ (ne_eqb (length (b ∷ bytes)) 0 (λ none. omega (arith, there, none))))) (hex-written (b ∷ bytes) there w))

value-spelled : (shape : Shape) (value : Value) → IsVolume shape → IsWithin shape value → HasSize value → Spells shape value (value_text value)
value-spelled shape (Number n) volume within size = number-spelled n size
value-spelled shape (Count n) volume within size = record { number = number-spelled n size; some = within }
value-spelled shape (Node name) volume within size = node-spelled shape name volume within
value-spelled shape (Party who) volume within size = party-spelled shape who volume within
value-spelled shape (Block bytes) volume within size =
    let some = volume.small_blocks in block-written shape.block bytes (omega (arith, some, within)) within size
value-spelled shape (Bytes bytes) volume within size = lie-spelled bytes size
value-spelled shape (Fill b) volume within size =
    record { first = _; second = _; spelled = refl; pair = pair-written b size }

values-spelled : (shape : Shape) (vs : List Value) → IsVolume shape → AllByRecursion (IsWithin shape) vs → AllByRecursion HasSize vs
    → AllZip (Spells shape) vs (map value_text vs)
values-spelled shape [] volume within size = tt
values-spelled shape (value ∷ vs) volume within size =
    (value-spelled shape value volume within.0 size.0, values-spelled shape vs volume within.1 size.1)

-- ---- no line end in a line, and no space in a word

node-above : (shape : Shape) (word : List ℕ) (name : NodeName) → IsNode shape word name → Above 32 word
node-above shape word name w =
    subst (Above 32) (sym w.spelled)
    (above_append 32 w.region (46 ∷ w.replica) (number_above w.region name.region w.is_region) (omega arith, number_above w.replica name.replica w.is_replica))

party-above : (shape : Shape) (word : List ℕ) (who : Sender) → IsParty shape word who → Above 32 word
party-above shape word sender.Client w = subst (Above 32) (sym w) (above_by 32 (codes "client") refl)
party-above shape word (sender.Node name) w = node-above shape word name w

value-above : (shape : Shape) (value : Value) (word : List ℕ) → Spells shape value word → Above 32 word
value-above shape (Number n) word w = number_above word n w
value-above shape (Count n) word w = number_above word n w.number
value-above shape (Node name) word w = node-above shape word name w
value-above shape (Party who) word w = party-above shape word who w
value-above shape (Block bytes) word w = block_above shape.block word bytes w
value-above shape (Bytes bytes) word w = lie_above word bytes w
value-above shape (Fill b) word w = subst (Above 32) (sym w.spelled) (pair_above w.first w.second b w.pair)

spelling-above : (k : Keyword) → Above 32 (spelling k)
spelling-above keyword.Write = above_by 32 (codes "write") refl
spelling-above keyword.Read = above_by 32 (codes "read") refl
spelling-above keyword.Barrier = above_by 32 (codes "barrier") refl
spelling-above keyword.Deliver = above_by 32 (codes "deliver") refl
spelling-above keyword.Settle = above_by 32 (codes "settle") refl
spelling-above keyword.Drop = above_by 32 (codes "drop") refl
spelling-above keyword.Lie = above_by 32 (codes "lie") refl
spelling-above keyword.Stop = above_by 32 (codes "stop") refl
spelling-above keyword.Crash = above_by 32 (codes "crash") refl
spelling-above keyword.Fail = above_by 32 (codes "fail") refl
spelling-above keyword.Replace = above_by 32 (codes "replace") refl
spelling-above keyword.ClientCrash = above_by 32 (codes "clientcrash") refl
spelling-above keyword.Restart = above_by 32 (codes "restart") refl
spelling-above keyword.Reassign = above_by 32 (codes "reassign") refl
spelling-above keyword.Tick = above_by 32 (codes "tick") refl

-- words without a space, joined by spaces
words_lack : (words : List (List ℕ)) → AllByRecursion (Above 32) words → AllByRecursion (Lacks 32) words
words_lack [] w = tt
words_lack (word ∷ words) w = (above_lacks 32 32 word (omega arith) w.0, words_lack words w.1)

line_above : (word : List ℕ) (words : List (List ℕ)) → AllByRecursion (Above 32) (word ∷ words) → Above 31 (join_with_byte 32 (word ∷ words))
line_above word [] w = above_lower 31 32 word (omega arith) w.0
line_above word (next ∷ words) w =
    above_append 31 word (32 ∷ join_with_byte 32 (next ∷ words)) (above_lower 31 32 word (omega arith) w.0) (omega arith, line_above next words w.1)

-- a line of such words is these words, and has no line end
pub record IsRow (line word : List ℕ) (rest : List (List ℕ)) : Type 0 where
  pub words : IsWords line (word ∷ rest)
  pub lacks : Lacks 10 line

row : (line word : List ℕ) (rest : List (List ℕ)) → AllByRecursion (Above 32) (word ∷ rest) → join_with_byte 32 (word ∷ rest) ≡ line → IsRow line word rest
row line word rest w joined = record {
  words = record { each = words_lack (word ∷ rest) w; joined = joined };
  lacks = subst (Lacks 10) joined (above_lacks 10 31 _ (omega arith) (line_above word rest w));
}

-- ---- an event's line

joined_spaced : (word : List ℕ) (vs : List Value) → join_with_byte 32 (word ∷ map value_text vs) ≡ word ++ flat_map spaced vs
joined_spaced word [] = sym (append-nil word)
joined_spaced word (value ∷ vs) = ap (λ l. word ++ 32 ∷ l) (joined_spaced (value_text value) vs)

values-above : (shape : Shape) (vs : List Value) → AllZip (Spells shape) vs (map value_text vs) → AllByRecursion (Above 32) (map value_text vs)
values-above shape [] w = tt
values-above shape (value ∷ vs) w = (value-above shape value (value_text value) w.0, values-above shape vs w.1)

event-row : (shape : Shape) (e : Event) → AllZip (Spells shape) (values e) (map value_text (values e))
    → IsRow (event_text e) (spelling (first_word e)) (map value_text (values e))
unfolding event_text
event-row shape e spelled =
    row _ _ (map value_text (values e)) (spelling-above (first_word e), values-above shape (values e) spelled) (joined_spaced (spelling (first_word e)) (values e))

pub event-printed : (shape : Shape) (e : Event) → IsVolume shape → IsEventWithin shape e → AllByRecursion HasSize (values e)
    → IsEventLine shape (event_text e) e × Lacks 10 (event_text e)
event-printed shape e volume within size =
    let spelled = values-spelled shape (values e) volume within.0 size in
    let line = event-row shape e spelled in
    (record { rest = map value_text (values e); words = line.words; spelled = spelled; few_blocks = within.1 }, line.lacks)

events-printed : (shape : Shape) (es : List Event) → IsVolume shape → AllByRecursion (IsEventWithin shape) es → AllByRecursion (λ e. AllByRecursion HasSize (values e)) es
    → AllZip (IsEventLine shape) (map event_text es) es × AllByRecursion (Lacks 10) (map event_text es)
events-printed shape [] volume within size = (tt, tt)
events-printed shape (e ∷ es) volume within size =
    let first = event-printed shape e volume within.0 size.0 in
    let others = events-printed shape es volume within.1 size.1 in
    ((first.0, others.0), (first.1, others.1))

-- ---- the first line

volume_words : Volume → List (List ℕ)
volume_words v =
    decimal v.geometry.regions_log ∷ decimal v.geometry.height ∷ decimal v.geometry.block ∷ decimal v.geometry.replicas ∷ hex_text v.key ∷ []

-- the numbers of a volume within the limits
record HasSmallNumbers (v : Volume) : Type 0 where
  is_regions_log : IsNumber (decimal v.geometry.regions_log) v.geometry.regions_log
  is_height : IsNumber (decimal v.geometry.height) v.geometry.height
  is_block : IsNumber (decimal v.geometry.block) v.geometry.block
  is_replicas : IsNumber (decimal v.geometry.replicas) v.geometry.replicas

small_numbers : (v : Volume) → IsVolume v.geometry → HasSmallNumbers v
small_numbers v within =
    let few = within.few_regions in
    let low = within.low in
    let blocks = within.small_blocks in
    let groups = within.small_groups in
    record {
      is_regions_log = number-spelled _ (small_fits _ (omega (arith, few)));
      is_height = number-spelled _ (small_fits _ (omega (arith, low)));
      is_block = number-spelled _ (small_fits _ (omega (arith, blocks)));
      is_replicas = number-spelled _ (small_fits _ (omega (arith, groups)));
    }

volume-row : (v : Volume) → HasSmallNumbers v → IsHex (hex_text v.key) v.key → IsRow (volume_text v) (codes "volume") (volume_words v)
unfolding volume_text volume_words
volume-row v small key =
    row _ _ (volume_words v) (
      above_by 32 (codes "volume") refl,
      (
        number_above _ _ small.is_regions_log,
        (
          number_above _ _ small.is_height,
          (
            number_above _ _ small.is_block,
            (
              number_above _ _ small.is_replicas,
              (hex_above _ _ key, tt),
            ),
          ),
        ),
      ),
    )
    refl

pub volume-printed : (v : Volume) → IsVolume v.geometry → 1 ≤ length v.key → length v.key ≤ 64 → AreBytes v.key
    → IsVolumeLine (volume_text v) v × Lacks 10 (volume_text v)
unfolding volume_words
volume-printed v within some short key =
    let small = small_numbers v within in
    let is_key = hex-written v.key some key in
    let line = volume-row v small is_key in (
      record {
        regions_log = decimal v.geometry.regions_log;
        height = decimal v.geometry.height;
        block = decimal v.geometry.block;
        replicas = decimal v.geometry.replicas;
        key = hex_text v.key;
        words = line.words;
        is_regions_log = small.is_regions_log;
        is_height = small.is_height;
        is_block = small.is_block;
        is_replicas = small.is_replicas;
        within = within;
        is_key = is_key;
        short_key = short;
      },
      line.lacks,
    )

-- ---- the whole text

lines_text : Schedule → List ℕ
lines_text s = flat_map ended (volume_text s.volume ∷ map event_text s.events)

text-lines : (s : Schedule) → lines_text s ≡ printed s
unfolding printed lines_text
text-lines s = ap (λ l. ended (volume_text s.volume) ++ l) (flat_map-map ended event_text s.events)

printed-means : (s : Schedule) → IsWithinLimits s → HasBytes s → length (printed s) ≤ 67108864 → IsSchedule (printed s) s
unfolding lines_text
printed-means s within size short =
    let first = volume-printed s.volume within.volume within.key within.short_key size.key in
    let others = events-printed s.volume.geometry s.events within.volume within.events size.events in
    record {
      first = volume_text s.volume;
      others = map event_text s.events;
      short = short;
      lines = subst (λ text. IsLines text (volume_text s.volume ∷ map event_text s.events)) (text-lines s) (lines-written _ _ (first.1, others.1));
      volume = first.0;
      events = others.0;
      few = within.few;
      rising = within.rising;
    }

pub text-means : (s : Schedule) (text : List ℕ) → text ≡ printed s → IsWithinLimits s → HasBytes s → length text ≤ 67108864 → IsSchedule text s
text-means s text is within size short =
    subst (λ t. IsSchedule t s) (sym is) (printed-means s within size (subst (λ t. length t ≤ 67108864) is short))
