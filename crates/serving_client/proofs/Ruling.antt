-- Which rule an answer or a request goes by.
use Rattle.std.proofs.Common.{◌≡◌, ◌∙◌, ℕ, ◌^◌, ◌==◌, ◌&&◌, not, nat_lt, Bool, true, false, if◌then◌else◌, [], ◌∷◌, None, Some, refl, sym, ap}
use Rattle.salus_types.specs.Volume.{Shape}
use Rattle.salus_types.specs.declared.names.NodeName.{NodeName}
use Rattle.salus_message.specs.declared.replies.Answer.{Answer}
use Rattle.schedule_text.specs.declared.schedule.Volume.{Volume}
use Rattle.printed_lines.specs.declared.line.Line.TheVariants as line
use Rattle.printed_lines.specs.declared.line.RequestRefusal.{RequestRefusal}
use Rattle.salus_model.specs.declared.trace.Request.{Request}
use Rattle.salus_model.specs.declared.trace.Request.TheVariants as request
use Rattle.salus_model.specs.Answering.{is_fitting}
use Rattle.client_rules.specs.State.{Serving, Serves, Told, ignored, only_lines}
use Rattle.client_rules.specs.Tables.{open_at}
use Rattle.client_rules.specs.Serving.{accepted, acked_told, acks, answered_here, claimed, committed_here, decided, head_answered, joined, read_answered, refusal_here, requested_here}
use Rattle.client_asking.specs.Lining.{IsAccepted}
use Rattle.open_reads.specs.Telling.{told_of_read}
use Rattle.head_blocks.specs.Advancing.{head_told}

module _ (volume : Volume) (c : Serving) (name : NodeName) (a : Answer) where
  pub answer_of_another : (a.session == c.session) ≡ false → answered_here volume c name a ≡ ignored (Serves c)
  unfolding answered_here
  answer_of_another other =
      ap (λ t. if not (t && is_fitting volume.geometry name a) then ignored (Serves c) else if nat_lt a.read (2 ^ 32) then read_answered volume.geometry c name a (open_at a c.reads) else head_answered volume c name a (open_at a c.asked)) other

  fits_or_not : (fits : Bool) (told : Told) → (if not (true && fits) then ignored (Serves c) else told) ≡ (if fits then told else ignored (Serves c))
  fits_or_not true told = refl
  fits_or_not false told = refl

  pub answer_of_read : (a.session == c.session) ≡ true → nat_lt a.read (2 ^ 32) ≡ true → answered_here volume c name a ≡ told_of_read volume.geometry c name a
  unfolding answered_here
  answer_of_read same low =
      ap (λ t. if not (t && is_fitting volume.geometry name a) then ignored (Serves c) else if nat_lt a.read (2 ^ 32) then read_answered volume.geometry c name a (open_at a c.reads) else head_answered volume c name a (open_at a c.asked)) same
      ∙ ap (λ t. if not (true && is_fitting volume.geometry name a) then ignored (Serves c) else if t then read_answered volume.geometry c name a (open_at a c.reads) else head_answered volume c name a (open_at a c.asked)) low
      ∙ fits_or_not (is_fitting volume.geometry name a) (read_answered volume.geometry c name a (open_at a c.reads))

  pub answer_of_head : (a.session == c.session) ≡ true → nat_lt a.read (2 ^ 32) ≡ false → answered_here volume c name a ≡ head_told volume c name a
  unfolding answered_here
  answer_of_head same high =
      ap (λ t. if not (t && is_fitting volume.geometry name a) then ignored (Serves c) else if nat_lt a.read (2 ^ 32) then read_answered volume.geometry c name a (open_at a c.reads) else head_answered volume c name a (open_at a c.asked)) same
      ∙ ap (λ t. if not (true && is_fitting volume.geometry name a) then ignored (Serves c) else if t then read_answered volume.geometry c name a (open_at a c.reads) else head_answered volume c name a (open_at a c.asked)) high
      ∙ fits_or_not (is_fitting volume.geometry name a) (head_answered volume c name a (open_at a c.asked))

module _ (shape : Shape) (c : Serving) (v : ℕ) where
  -- a request that isn't refused joins the line
  accepted_joins : (r : Request) → IsAccepted shape r → accepted shape c v r ≡ joined shape c (record { event = v; request = r }) c.line
  accepted_joins (request.Write batch) is = refl
  accepted_joins (request.Read b) is = refl
  accepted_joins request.Barrier is = refl
  accepted_joins (request.Restart e) is = absurd is
  accepted_joins (request.Reassign e g) is = absurd is

  pub request_taken : (r : Request) → refusal_here shape c r ≡ None → IsAccepted shape r → requested_here shape c v r ≡ joined shape c (record { event = v; request = r }) c.line
  unfolding requested_here
  request_taken r none is = ap (decided shape c v r) none ∙ accepted_joins r is

  pub request_refused : (r : Request) (cause : RequestRefusal) → refusal_here shape c r ≡ Some cause → requested_here shape c v r ≡ only_lines (Serves c) (line.Refused v cause ∷ [])
  unfolding requested_here
  request_refused r cause is = ap (decided shape c v r) is

module _ (shape : Shape) (c : Serving) (name : NodeName) (session front : ℕ) where
  pub claim_of_another : (session == c.session) ≡ false → committed_here shape c name session front ≡ ignored (Serves c)
  unfolding committed_here
  claim_of_another other = ap (λ t. if t then acked_told (acks shape (claimed c name front) c.unacked) else ignored (Serves c)) other

  pub claim_taken : (session == c.session) ≡ true → committed_here shape c name session front ≡ acked_told (acks shape (claimed c name front) c.unacked)
  unfolding committed_here
  claim_taken same = ap (λ t. if t then acked_told (acks shape (claimed c name front) c.unacked) else ignored (Serves c)) same
