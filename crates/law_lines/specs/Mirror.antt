-- What a client keeps, as the history and the lines so far leave it.
use Rattle.std.specs.Prelude.{◌≡◌, ℕ, ◌<◌, ◌≤◌, Bool, true, false, ◌==◌, not, nat_lt, nat_le, if◌then◌else◌, List, [], ◌∷◌, map, length, drop, filter, flat_map, None}
use Rattle.std.specs.List.{list_any, list_all, range_with_len}
use Rattle.salus_types.specs.Volume.{Shape, regions, blocks}
use Rattle.salus_types.specs.declared.names.NodeName.{NodeName}
use Rattle.salus_model.specs.declared.trace.Request.{Request}
use Rattle.salus_model.specs.declared.trace.Request.TheVariants as request
use Rattle.volume_model.specs.Parts.{Session, leader_of, batch_at}
use Rattle.salus_model.specs.Judge.{Judge, last_number, array, front_of}
use Rattle.salus_model.specs.Hearing.{Past, news_since, opens, Serving, phase_of}
use Rattle.salus_model.specs.Waiting.{Taken, is_barrier, live, has_ended, left_of, Question}
use Rattle.salus_model.specs.Answering.{present_number, is_known, first_strike}
use Rattle.salus_model.specs.Due.{is_claim, barriers_due}
use Rattle.client_rules.specs.State.{Open, Waiter}
use Rattle.client_rules.specs.State as state
use Rattle.client_rules.specs.Tables.{number_at, claim_of, line_of, read_questions, head_questions}

-- ---- order

-- events rise, from above `low` to below `high`
unfoldable pub Between : ℕ → List Taken → ℕ → Type 0
Between low [] high = low < high
Between low (r ∷ requests) high = (low < r.event) × Between r.event requests high

-- ---- what was answered so far

-- no answer to the question has counted
pub record IsUntouched (shape : Shape) (history : List Past) (q : Question) : Type 0 where
  pub unknown : is_known shape q history ≡ false
  pub unstruck : (r : ℕ) → first_strike shape q r history ≡ None

-- the question with the strikes so far
abbrev pub open_of : Shape → List Past → Question → Open
open_of shape history q = record { question = q; strikes = map (λ r. first_strike shape q r history) (range_with_len 0 shape.replicas) }

-- ---- the tables

-- the request joins the waiting line, and a read's block is one of the volume
abbrev pub is_inside : Shape → Request → Bool
is_inside shape (request.Write batch) = true
is_inside shape (request.Read b) = nat_lt b (blocks shape)
is_inside shape request.Barrier = true
is_inside shape (request.Restart e) = false
is_inside shape (request.Reassign e g) = false

-- a barrier that has left, with its front
abbrev pub waiter_at : Judge → Taken → List Waiter
waiter_at judge r = if is_barrier r.request then record { event = r.event; front = front_of judge r.event } ∷ [] else []

-- the events from which on nothing was asked yet
abbrev pub AfterHead : List Taken → ℕ → ℕ → Type 0
AfterHead [] n v = n ≤ v
AfterHead (w ∷ line) n v = w.event < v

-- the leader of a session's last batch, 0 where it has none
abbrev pub leader_now : Shape → Session → ℕ
leader_now shape known = if length known.list == known.base then 0 else leader_of shape (batch_at known (length known.list))

-- numbers, blocks and batches
pub record MirrorsCounts (shape : Shape) (judge : Judge) (c : state.Serving) : Type 0 where
  pub session : c.session ≡ judge.now.session
  pub last : c.last ≡ last_number judge
  pub acked : c.acked ≡ judge.acked
  pub contents : c.contents ≡ array judge
  pub numbers : (g : ℕ) → g < regions shape → number_at c g ≡ present_number shape judge g
  pub leaders : map (λ u. u.leader) c.unacked ≡ map (λ batch. leader_of shape batch) (drop judge.acked judge.now.list)
  pub leads : c.leader ≡ leader_now shape judge.now
  pub within : judge.acked ≤ last_number judge
  pub based : judge.now.base ≤ judge.acked

-- the requests that are live
pub record MirrorsLine (shape : Shape) (history : List Past) (judge : Judge) (requests : List Taken) (c : state.Serving) : Type 0 where
  pub line : c.line ≡ line_of requests
  pub reads : c.reads ≡ map (open_of shape history) (read_questions (left_of requests))
  pub asked : c.asked ≡ map (open_of shape history) (filter (λ q. not (is_known shape q history)) (head_questions shape (line_of requests)))
  pub barriers : c.barriers ≡ flat_map (waiter_at judge) (left_of requests)

-- what holds of the requests that are live, before the client is asked anything at event n or later
pub record IsInOrder (shape : Shape) (history : List Past) (judge : Judge) (requests : List Taken) (n : ℕ) : Type 0 where
  pub rises : Between 0 requests n
  pub later : Between judge.latest (line_of requests) n
  pub inside : list_all (λ r. is_inside shape r.request) requests ≡ true
  pub waiting : barriers_due judge requests ≡ []
  pub unknown : list_any (λ q. is_known shape q history) (read_questions (left_of requests)) ≡ false
  pub untouched : (q : Question) → AfterHead (line_of requests) n q.event → IsUntouched shape history q
  pub front : (v : ℕ) → judge.latest < v → front_of judge v ≡ last_number judge

-- the nodes' claims
abbrev pub MirrorsClaims : List Past → Judge → state.Serving → Type 0
MirrorsClaims history judge c =
    (name : NodeName) (s : ℕ) → 0 < s → nat_le s (claim_of name c.claims) ≡ list_any (λ x. is_claim judge.now.session s name x) (news_since opens history)

-- A client that serves.
pub record MirrorsServing (shape : Shape) (history : List Past) (judge : Judge) (n : ℕ) (c : state.Serving) : Type 0 where
  pub serves : phase_of history ≡ Serving
  pub counts : MirrorsCounts shape judge c
  pub table : MirrorsLine shape history judge (live history judge) c
  pub order : IsInOrder shape history judge (live history judge) n
  pub claims : MirrorsClaims history judge c

-- What holds whatever the client is at: all that has ended was asked before event n, and nothing from there on was asked.
pub record IsBefore (shape : Shape) (history : List Past) (judge : Judge) (n : ℕ) : Type 0 where
  pub ended : (v : ℕ) → has_ended judge v ≡ true → v < n
  pub untouched : (q : Question) → n ≤ q.event → IsUntouched shape history q
  pub latest : judge.latest < n
