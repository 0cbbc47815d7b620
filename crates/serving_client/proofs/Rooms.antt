-- Room in the waiting line: where nothing waits, where one more waits, and where the oldest is gone.
use Rattle.std.proofs.Common.{◌≡◌, ◌∙◌, ℕ, ◌+◌, ◌-◌, ◌^◌, ◌<◌, ◌≤◌, ◌==◌, Bool, true, false, if◌then◌else◌, List, [], ◌∷◌, ◌++◌, map, length, Option, None, Some, refl, sym, ap, subst, arith, append_assoc}
use Rattle.std.specs.Prelude.{MatchOption}
use Rattle.std.specs.List.{AllByRecursion}
use Rattle.std.proofs.lemmas.List.{map-append}
use Rattle.std.proofs.lemmas.List.Sums.{sum_by_push}
use Rattle.std.proofs.lemmas.Bool.{true≢false}
use Rattle.list_lemmas.proofs.Each.{all_both, all_split}
use Rattle.list_lemmas.proofs.Tests.{unequal}
use Rattle.salus_types.specs.Volume.{Shape, blocks}
use Rattle.salus_model.specs.Waiting.{Taken, is_read, is_write, is_barrier, reads_among, writes_among, barriers_among}
use Rattle.client_rules.specs.State.{Open}
use Rattle.client_rules.specs.Tables.{line_of, fresh, head_questions}
use Rattle.client_window.specs.Window.{in_flight}
use Rattle.client_pipeline.specs.Pipeline.{KeptPipeline, Stays}
use Rattle.pruned_volume.specs.Trees.{KeptTrees}
use Rattle.verified_read.specs.Table.{Table}
use Rattle.client_asking.specs.Lining.{AreUpTo, AreWithin, HasRoom, IsAccepted, Rise, numbers_taken}
use Rattle.client_asking.proofs.Heads.{line_again}
use Rattle.client_asking.proofs.Left.{reads_cons, writes_cons, barriers_cons}
use Rattle.client_asking.proofs.Rising.{rise_more, rise_without, up_to_more, up_to_without}
use Rattle.open_reads.specs.Telling.{KeepsRoom}
use Rattle.head_blocks.specs.Headed.{IsHeaded}
use Rattle.head_blocks.proofs.CallerLemmas.{headed_asked, headed_empty, headed_joined}
use Rattle.serving_client.specs.declared.inside.Core.{Core}
use Rattle.serving_client.specs.Keeping.{HasGivenUp, HasPlace, IsHeadless, IsKept, IsLined, Survives}

-- ---- nothing waits

pub room_empty : (p : KeptPipeline) → HasRoom p [] []
room_empty p = record {
  accepted = tt;
  within = tt;
  rises = tt;
  few_reads = omega arith;
  few_barriers = λ some. absurd (omega (arith, some));
  few_batches = λ some. absurd (omega (arith, some));
}

pub kept_empty : (k : Core) → k.line ≡ [] → k.reads ≡ record { shape = k.pipeline.window.shape; asked = [] } → k.asked ≡ record { shape = k.pipeline.window.shape; asked = [] }
    → k.trees.shape ≡ k.pipeline.window.shape → k.newest < 2 ^ 32 → k.pipeline.window.last ≤ 2 ^ 63 + k.newest → IsKept k
kept_empty k line reads asked trees low below =
    let no_reads : k.reads.asked ≡ [] = ap (λ (t : Table). t.asked) reads in
    let no_questions : k.asked.asked ≡ [] = ap (λ (t : Table). t.asked) asked in
    record {
      lined = record {
        trees_shape = trees;
        reads_shape = ap (λ (t : Table). t.shape) reads;
        asked_shape = ap (λ (t : Table). t.shape) asked;
        room = subst (λ rs. HasRoom k.pipeline rs k.line) (sym no_reads) (subst (λ l. HasRoom k.pipeline [] l) (sym line) (room_empty k.pipeline));
        up_to = subst (λ rs. AreUpTo k.newest (numbers_taken rs k.line)) (sym no_reads) (subst (λ l. AreUpTo k.newest (numbers_taken [] l)) (sym line) tt);
        low = low;
        below = let none : writes_among k.line ≡ 0 = ap writes_among line in omega arith;
      };
      headed = subst (λ a. IsHeaded k.trees a k.line) (sym no_questions) (subst (λ l. IsHeaded k.trees [] l) (sym line) (headed_empty k.trees));
    }

pub kept_after_error : (before between after : Core) → IsKept before → Survives before between → before.newest ≤ between.newest → between.newest < 2 ^ 32 → HasGivenUp between after → IsKept after
kept_after_error before between after kept survives later low given =
    let same : after.pipeline.window.shape ≡ between.pipeline.window.shape = ap (λ (p : KeptPipeline). p.window.shape) given.pipeline in
    kept_empty after given.line (given.reads ∙ ap (λ s. record { shape = s; asked = [] }) (sym same)) (given.asked ∙ ap (λ s. record { shape = s; asked = [] }) (sym same))
    (ap (λ (t : KeptTrees). t.shape) given.trees ∙ survives.trees ∙ kept.lined.trees_shape ∙ sym survives.shape ∙ sym same)
    (omega (arith, given.newest, low))
    (omega (arith, ap (λ (p : KeptPipeline). p.window.last) given.pipeline, given.newest, survives.last, kept.lined.below, later))

-- ---- one more waits

writes_more : (rs : List Taken) (t : Taken) → writes_among (rs ++ t ∷ []) ≡ writes_among rs + (if is_write t.request then 1 else 0)
writes_more rs t = sum_by_push (λ (r : Taken). if is_write r.request then 1 else 0) rs t

reads_more : (rs : List Taken) (t : Taken) → reads_among (rs ++ t ∷ []) ≡ reads_among rs + (if is_read t.request then 1 else 0)
reads_more rs t = sum_by_push (λ (r : Taken). if is_read r.request then 1 else 0) rs t

barriers_more : (rs : List Taken) (t : Taken) → barriers_among (rs ++ t ∷ []) ≡ barriers_among rs + (if is_barrier t.request then 1 else 0)
barriers_more rs t = sum_by_push (λ (r : Taken). if is_barrier r.request then 1 else 0) rs t

numbers_more : (reads : List Open) (line : List Taken) (t : Taken) → numbers_taken reads (line ++ t ∷ []) ≡ numbers_taken reads line ++ t.event ∷ []
numbers_more reads line t =
    ap (λ l. map (λ (o : Open). o.question.number) reads ++ l) (map-append (λ (r : Taken). r.event) line (t ∷ []))
    ∙ sym (append_assoc (map (λ (o : Open). o.question.number) reads) (map (λ (r : Taken). r.event) line) (t.event ∷ []))

few_more : (test : Bool) (count now limit more : ℕ) → more ≡ now + (if test then 1 else 0) → count + now ≤ limit → (test ≡ true → count + now < limit) → count + more ≤ limit
few_more true count now limit more is few room = omega (arith, is, room refl)
few_more false count now limit more is few room = omega (arith, is, few)

few_if_more : (test : Bool) (count now limit more : ℕ) → more ≡ now + (if test then 1 else 0) → (0 < now → count + now ≤ limit) → (test ≡ true → count + now < limit) → 0 < more → count + more ≤ limit
few_if_more true count now limit more is few room some = omega (arith, is, room refl)
few_if_more false count now limit more is few room some = let same : more ≡ now = omega (arith, is) in omega (arith, same, few (omega (arith, same, some)))

one_at_most : (test : Bool) → (if test then 1 else 0) ≤ 1
one_at_most true = omega arith
one_at_most false = omega arith

module _ (k : Core) (t : Taken) (lined : IsLined k) (later : k.newest < t.event) (low : t.event < 2 ^ 32) (place : HasPlace k t.request) where
  room_joined : HasRoom k.pipeline k.reads.asked (k.line ++ t ∷ [])
  room_joined = record {
    accepted = all_both (λ (r : Taken). IsAccepted k.pipeline.window.shape r.request) k.line (t ∷ []) lined.room.accepted (place.accepted, tt);
    within = lined.room.within;
    rises = subst (Rise 0) (sym (numbers_more k.reads.asked k.line t))
        (rise_more 0 k.newest (numbers_taken k.reads.asked k.line) t.event (omega arith) lined.up_to later lined.room.rises);
    few_reads = few_more (is_read t.request) (length k.reads.asked) (reads_among k.line) 64 (reads_among (k.line ++ t ∷ [])) (reads_more k.line t) lined.room.few_reads place.reads;
    few_barriers = few_if_more (is_barrier t.request) (length k.pipeline.window.barriers) (barriers_among k.line) 64 (barriers_among (k.line ++ t ∷ [])) (barriers_more k.line t) lined.room.few_barriers place.barriers;
    few_batches = few_if_more (is_write t.request) (in_flight k.pipeline.window) (writes_among k.line) 16 (writes_among (k.line ++ t ∷ [])) (writes_more k.line t) lined.room.few_batches place.batches;
  }

  pub lined_joined : (line : List Taken) → line ≡ k.line ++ t ∷ [] → IsLined (record k { line = line; newest = t.event })
  lined_joined line is = record {
    trees_shape = lined.trees_shape;
    reads_shape = lined.reads_shape;
    asked_shape = lined.asked_shape;
    room = subst (λ l. HasRoom k.pipeline k.reads.asked l) (sym is) room_joined;
    up_to = subst (λ l. AreUpTo t.event (numbers_taken k.reads.asked l)) (sym is)
        (subst (AreUpTo t.event) (sym (numbers_more k.reads.asked k.line t))
        (all_both (λ n. n ≤ t.event) (numbers_taken k.reads.asked k.line) (t.event ∷ []) (up_to_more k.newest t.event (numbers_taken k.reads.asked k.line) (omega (arith, later)) lined.up_to) (omega arith, tt)));
    low = low;
    below =
        let one = one_at_most (is_write t.request) in
        let more = writes_more k.line t in
        omega (arith, ap writes_among is, lined.below, later);
  }

  pub kept_joined : (line : List Taken) → line ≡ k.line ++ t ∷ [] → 0 < length k.line → IsHeaded k.trees k.asked.asked k.line → IsKept (record k { line = line; newest = t.event })
  kept_joined line is some headed = record {
    lined = lined_joined line is;
    headed = subst (λ l. IsHeaded k.trees k.asked.asked l) (sym is) (headed_joined k.trees k.asked.asked k.line t some headed);
  }

  pub headless_joined : (line : List Taken) → line ≡ k.line ++ t ∷ [] → k.line ≡ [] → IsHeaded k.trees k.asked.asked k.line → IsHeadless (record k { line = line; newest = t.event })
  headless_joined line is none headed = record { lined = lined_joined line is; none = headed.none none }

-- whether any request waits
pub some_wait : (rs : List Taken) → false ≡ (length rs == 0) → 0 < length rs
some_wait [] is = absurd (true≢false (sym is))
some_wait (r ∷ rs) is = omega arith

pub none_waits : (rs : List Taken) → true ≡ (length rs == 0) → rs ≡ []
none_waits [] is = refl
none_waits (r ∷ rs) is = absurd (true≢false (is ∙ unequal 0 (length (r ∷ rs)) (omega arith)))

-- only a newer request was asked for
pub kept_later : (k : Core) (v : ℕ) → IsKept k → k.newest < v → v < 2 ^ 32 → IsKept (record k { newest = v })
kept_later k v kept later low = record {
  lined = record {
    trees_shape = kept.lined.trees_shape;
    reads_shape = kept.lined.reads_shape;
    asked_shape = kept.lined.asked_shape;
    room = kept.lined.room;
    up_to = up_to_more k.newest v (numbers_taken k.reads.asked k.line) (omega (arith, later)) kept.lined.up_to;
    low = low;
    below = omega (arith, kept.lined.below, later);
  };
  headed = kept.headed;
}

-- ---- the oldest is gone

-- where as many batches more are in flight as that one writes
pub room_behind : (p q : KeptPipeline) (reads : List Open) (t : Taken) (rest : List Taken) → HasRoom p reads (t ∷ rest) → q.window.shape ≡ p.window.shape
    → in_flight q.window ≤ in_flight p.window + (if is_write t.request then 1 else 0) → length q.window.barriers ≤ length p.window.barriers → HasRoom q reads rest
room_behind p q reads t rest room same few fewer = record {
  accepted = subst (λ s. AllByRecursion (λ (r : Taken). IsAccepted s r.request) rest) (sym same) room.accepted.1;
  within = subst (λ s. AreWithin s reads) (sym same) room.within;
  rises = rise_without 0 (map (λ (o : Open). o.question.number) reads) t.event (map (λ (r : Taken). r.event) rest) room.rises;
  few_reads = let whole = reads_cons t rest in omega (arith, room.few_reads);
  few_barriers = λ some. let whole = barriers_cons t rest in let before = room.few_barriers (omega (arith, some)) in omega (arith, fewer);
  few_batches = λ some. let whole = writes_cons t rest in let before = room.few_batches (omega (arith, some)) in omega (arith, few);
}

pub lined_behind : (k : Core) (t : Taken) (p : KeptPipeline) (trees : KeptTrees) → IsLined (record k { line = t ∷ k.line }) → p.window.shape ≡ k.pipeline.window.shape → trees.shape ≡ k.trees.shape
    → p.window.last ≤ k.pipeline.window.last + (if is_write t.request then 1 else 0) → k.pipeline.window.acked ≤ p.window.acked → length p.window.barriers ≤ length k.pipeline.window.barriers
    → IsLined (record k { pipeline = p; trees = trees })
lined_behind k t p trees lined same trees_same last acked fewer = record {
  trees_shape = trees_same ∙ lined.trees_shape ∙ sym same;
  reads_shape = lined.reads_shape ∙ sym same;
  asked_shape = lined.asked_shape ∙ sym same;
  room = room_behind k.pipeline p k.reads.asked t k.line lined.room same (let one = one_at_most (is_write t.request) in omega (arith, last, acked)) fewer;
  up_to = up_to_without k.newest (map (λ (o : Open). o.question.number) k.reads.asked) t.event (map (λ (r : Taken). r.event) k.line) lined.up_to;
  low = lined.low;
  below = let whole = writes_cons t k.line in omega (arith, last, lined.below);
}

-- ---- what may leave has left

writes_line : (rs : List Taken) → writes_among (line_of rs) ≤ writes_among rs
unfolding line_of
writes_line [] = omega arith
writes_line (r ∷ rs) = by_write (is_write r.request) (writes_line rs)
  where
    by_write : (t : Bool) → writes_among (line_of rs) ≤ writes_among rs → writes_among (if t then r ∷ rs else line_of rs) ≤ writes_among (r ∷ rs)
    by_write true rest = omega arith
    by_write false rest = let whole = writes_cons r rs in omega (arith, rest)

pub heads_itself : (line first : List Taken) → line ≡ line_of first → line_of line ≡ line
heads_itself line first is = ap line_of is ∙ line_again first ∙ sym is

module _ (k : Core) (p : KeptPipeline) (line : List Taken) (reads : Table) (headless : IsHeadless k) (stays : Stays k.pipeline p) (is : line ≡ line_of k.line) (room : HasRoom p reads.asked line)
    (up_to : (high : ℕ) → AreUpTo high (numbers_taken k.reads.asked k.line) → AreUpTo high (numbers_taken reads.asked line)) where
  each_low : (high : ℕ) (rs : List Taken) → high < 2 ^ 32 → AreUpTo high (map (λ (t : Taken). t.event) rs) → AllByRecursion (λ (t : Taken). IsAccepted p.window.shape t.request) rs
      → AllByRecursion (λ (t : Taken). (t.event < 2 ^ 32) × IsAccepted p.window.shape t.request) rs
  each_low high [] low are accepted = tt
  each_low high (t ∷ rs) low are accepted = ((omega (arith, are.0, low), accepted.0), each_low high rs low are.1 accepted.1)

  -- what the head needs
  pub left_accepted : AllByRecursion (λ (t : Taken). (t.event < 2 ^ 32) × IsAccepted p.window.shape t.request) line
  left_accepted =
      each_low k.newest line headless.lined.low
      (all_split (λ n. n ≤ k.newest) (map (λ (o : Open). o.question.number) reads.asked) (map (λ (t : Taken). t.event) line) (up_to k.newest headless.lined.up_to)).1 room.accepted

  pub left_kept : (asked : Table) → reads.shape ≡ k.reads.shape → asked.shape ≡ k.asked.shape → asked.asked ≡ map (fresh p.window.shape) (head_questions p.window.shape line)
      → IsKept (record k { pipeline = p; line = line; reads = reads; asked = asked })
  left_kept asked reads_same asked_same asks = record {
    lined = record {
      trees_shape = headless.lined.trees_shape ∙ sym stays.shape;
      reads_shape = reads_same ∙ headless.lined.reads_shape ∙ sym stays.shape;
      asked_shape = asked_same ∙ headless.lined.asked_shape ∙ sym stays.shape;
      room = room;
      up_to = up_to k.newest headless.lined.up_to;
      low = headless.lined.low;
      below = omega (arith, ap writes_among is, writes_line k.line, stays.last, headless.lined.below);
    };
    headed = subst (λ a. IsHeaded k.trees a line) (sym asks)
        (headed_asked p.window.shape k.trees (headless.lined.trees_shape ∙ sym stays.shape) line (heads_itself line k.line is) room.accepted);
  }

-- ---- claims are taken

pub room_claimed : (p q : KeptPipeline) (reads : List Open) (line : List Taken) → HasRoom p reads line → Stays p q → length q.window.barriers ≤ length p.window.barriers → HasRoom q reads line
room_claimed p q reads line room stays fewer = record {
  accepted = subst (λ s. AllByRecursion (λ (r : Taken). IsAccepted s r.request) line) (sym stays.shape) room.accepted;
  within = subst (λ s. AreWithin s reads) (sym stays.shape) room.within;
  rises = room.rises;
  few_reads = room.few_reads;
  few_barriers = λ some. omega (arith, room.few_barriers some, fewer);
  few_batches = λ some. omega (arith, room.few_batches some, stays.last, stays.acked);
}

pub kept_claimed : (k : Core) (p : KeptPipeline) → IsKept k → Stays k.pipeline p → length p.window.barriers ≤ length k.pipeline.window.barriers → IsKept (record k { pipeline = p })
kept_claimed k p kept stays fewer = record {
  lined = record {
    trees_shape = kept.lined.trees_shape ∙ sym stays.shape;
    reads_shape = kept.lined.reads_shape ∙ sym stays.shape;
    asked_shape = kept.lined.asked_shape ∙ sym stays.shape;
    room = room_claimed k.pipeline p k.reads.asked k.line kept.lined.room stays fewer;
    up_to = kept.lined.up_to;
    low = kept.lined.low;
    below = omega (arith, stays.last, kept.lined.below);
  };
  headed = kept.headed;
}

-- ---- an open read is answered

pub kept_read : (k : Core) (reads : Table) → IsKept k → reads.shape ≡ k.reads.shape → KeepsRoom k.reads.asked reads.asked → IsKept (record k { reads = reads })
kept_read k reads kept same keeps = record {
  lined = record {
    trees_shape = kept.lined.trees_shape;
    reads_shape = same ∙ kept.lined.reads_shape;
    asked_shape = kept.lined.asked_shape;
    room = keeps.room k.pipeline k.line kept.lined.room;
    up_to = keeps.up_to k.newest k.line kept.lined.up_to;
    low = kept.lined.low;
    below = kept.lined.below;
  };
  headed = kept.headed;
}

-- ---- the head ends

pub headless_ended : (k : Core) (o : Option Taken) (line : List Taken) (trees : KeptTrees) → MatchOption o ((k.line ≡ []) × (line ≡ [])) (λ t. k.line ≡ t ∷ line) → 0 < length k.line → IsHeadless k
    → trees.shape ≡ k.trees.shape → IsHeadless (record k { line = line; trees = trees })
headless_ended k None line trees is some headless same = absurd (omega (arith, some, ap length is.0))
headless_ended k (Some t) line trees is some headless same = record {
  lined = lined_behind (record k { line = line }) t k.pipeline trees (subst (λ l. IsLined (record k { line = l })) is headless.lined) refl same (omega arith) (omega arith) (omega arith);
  none = headless.none;
}
