-- What a question that is asked is of: a read that waits for its block, or the write at the head; and its block is the volume's.
use Rattle.std.proofs.Common.{◌≡◌, ◌∙◌, ◌⊎◌, inl, inr, ⊎_elim, ℕ, ◌+◌, ◌<◌, ◌==◌, Bool, true, false, if◌then◌else◌, List, [], ◌∷◌, ◌++◌, refl, sym, ap, arith}
use Rattle.std.specs.List.{list_all, list_any, range_with_len}
use Rattle.std.proofs.lemmas.Bool.{true≢false, ltb-true}
use Rattle.salus_types.specs.Volume.{Shape, blocks}
use Rattle.salus_types.specs.declared.records.Write.{Write}
use Rattle.merkle_region.specs.Tree.{IsAmong}
use Rattle.merkle_region.proofs.Membership.{among_either}
use Rattle.volume_model.specs.Parts.{blocks_of}
use Rattle.salus_model.specs.declared.trace.Request.{Request}
use Rattle.salus_model.specs.declared.trace.Request.TheVariants as request
use Rattle.salus_model.specs.Hearing.{Past}
use Rattle.salus_model.specs.Judge.{Judge}
use Rattle.salus_model.specs.Waiting.{Taken, is_write, live, Question, questions_from, questions_of, questions}
use Rattle.client_rules.specs.State as state
use Rattle.client_rules.specs.State.{Open}
use Rattle.client_rules.specs.Tables.{line_of, head_questions}
use Rattle.list_lemmas.proofs.Members.{among_filter, among_range}
use Rattle.list_lemmas.proofs.Tests.{by_test, and_left, and_right}
use Rattle.law_lines.specs.Mirror.{is_inside, MirrorsServing}
use Rattle.law_lines.proofs.Ordered.{head-writes}
use Rattle.law_complete.proofs.Heads.{IsOfHead, of_head}

-- ---- questions

-- the question of a read among these requests
pub record IsOfRead (requests : List Taken) (x : Question) : Type 0 where
  pub r : Taken
  pub among : IsAmong r requests
  pub b : ℕ
  pub reads : r.request ≡ request.Read b
  pub is : x ≡ record { event = r.event; number = r.event; block = b }

later_read : (y : Taken) (requests : List Taken) (x : Question) → IsOfRead requests x → IsOfRead (y ∷ requests) x
later_read y requests x of = record { r = of.r; among = inr of.among; b = of.b; reads = of.reads; is = of.is }

module _ (shape : Shape) where
  -- the question of a request that isn't a write
  plain_question : (y : Taken) (requests : List Taken) (q : Request) → y.request ≡ q → is_write q ≡ false → (x : Question) → IsAmong x (questions_of shape y.event q) → IsOfRead (y ∷ requests) x
  plain_question y requests (request.Read b) is plain x (inl same) = record { r = y; among = inl refl; b = b; reads = is; is = same }
  plain_question y requests (request.Read b) is plain x (inr nothing) = absurd nothing
  plain_question y requests (request.Write batch) is plain x among = absurd (true≢false plain)
  plain_question y requests request.Barrier is plain x among = absurd among
  plain_question y requests (request.Restart e) is plain x among = absurd among
  plain_question y requests (request.Reassign e g) is plain x among = absurd among

  -- Each question is of a read, or of the write at the head.
  pub of_read_or_head : (requests : List Taken) (x : Question) → IsAmong x (questions shape requests) → IsOfRead requests x ⊎ IsAmong x (head_questions shape (line_of requests))
  unfolding questions line_of
  of_read_or_head [] x among = absurd among
  of_read_or_head (y ∷ requests) x among =
      by_test
      (λ (t : Bool). IsAmong x (if t then questions_of shape y.event y.request else questions_of shape y.event y.request ++ questions shape requests)
      → IsOfRead (y ∷ requests) x ⊎ IsAmong x (head_questions shape (if t then y ∷ requests else line_of requests)))
      (is_write y.request) (λ writes here. inr here)
      (λ plain some. ⊎_elim (λ (here : IsAmong x (questions_of shape y.event y.request)). inl (plain_question y requests y.request refl plain x here))
      (λ (behind : IsAmong x (questions shape requests)).
      ⊎_elim (λ (read : IsOfRead requests x). inl (later_read y requests x read)) (λ (head : IsAmong x (head_questions shape (line_of requests))). inr head) (of_read_or_head requests x behind))
      (among_either x (questions_of shape y.event y.request) (questions shape requests) some)) among

  -- ---- blocks

  block_from : (v j : ℕ) (bs : List ℕ) (x : Question) → IsAmong x (questions_from v j bs) → IsAmong x.block bs
  unfolding questions_from
  block_from v j [] x among = absurd among
  block_from v j (b ∷ bs) x (inl same) = inl (ap (λ (q : Question). q.block) same)
  block_from v j (b ∷ bs) x (inr later) = inr (block_from v (j + 1) bs x later)

  write_block : (v : ℕ) (q : Request) → is_write q ≡ true → (x : Question) → IsAmong x (questions_of shape v q) → x.block < blocks shape
  write_block v (request.Write batch) writes x among =
      let inside = among_filter (λ b. list_any (λ (w : Write). w.block == b) batch) x.block (range_with_len 0 (blocks shape)) (block_from v 1 (blocks_of shape batch) x among) in
      let low : x.block < 0 + blocks shape = (among_range (blocks shape) 0 x.block inside.0).1 in
      omega (arith, low)
  write_block v (request.Read b) writes x among = absurd (true≢false (sym writes))
  write_block v request.Barrier writes x among = absurd among
  write_block v (request.Restart e) writes x among = absurd among
  write_block v (request.Reassign e g) writes x among = absurd among

  module _ (history : List Past) (judge : Judge) (n : ℕ) (c : state.Serving) (m : MirrorsServing shape history judge n c) where
    -- of a question of the head
    pub head_inside : (o : Open) → IsAmong o c.asked → o.question.block < blocks shape
    head_inside o o_in =
        let head : IsOfHead shape c.line o.question = of_head shape history judge n c m o o_in in
        write_block head.w.event head.w.request (head-writes (live history judge) head.w head.behind (sym m.table.line ∙ head.is)) o.question head.among

    one_inside : (requests : List Taken) → list_all (λ r. is_inside shape r.request) requests ≡ true → (r : Taken) → IsAmong r requests → is_inside shape r.request ≡ true
    one_inside [] all r among = absurd among
    one_inside (y ∷ requests) all r (inl same) = ap (λ (t : Taken). is_inside shape t.request) same ∙ and_left (is_inside shape y.request) (list_all (λ x. is_inside shape x.request) requests) all
    one_inside (y ∷ requests) all r (inr later) = one_inside requests (and_right (is_inside shape y.request) (list_all (λ x. is_inside shape x.request) requests) all) r later

    -- and of a read
    pub read_inside : (x : Question) (of : IsOfRead (live history judge) x) → of.b < blocks shape
    read_inside x of =
        ltb-true of.b (blocks shape) (sym (ap (λ (q : Request). is_inside shape q) of.reads) ∙ one_inside (live history judge) m.order.inside of.r of.among)
