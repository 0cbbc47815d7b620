-- Tables that stay as they are while the history goes on.
use Rattle.std.proofs.Common.{◌≡◌, ℕ, ◌<◌, ◌≤◌, true, false, not, ◌||◌, ◌∙◌, List, [], ◌∷◌, map, ap, sym, subst, arith}
use Rattle.std.specs.Prelude.{filter}
use Rattle.std.specs.List.{list_any}
use Rattle.salus_types.specs.Volume.{Shape}
use Rattle.salus_types.specs.declared.names.NodeName.{NodeName}
use Rattle.salus_model.specs.Judge.{Judge}
use Rattle.salus_model.specs.Hearing.{News, Past, news_since, opens, phase_of}
use Rattle.salus_model.specs.Waiting.{Taken, live, left_of, has_ended, Question}
use Rattle.salus_model.specs.Answering.{is_known}
use Rattle.salus_model.specs.Due.{is_claim}
use Rattle.client_rules.specs.State as state
use Rattle.client_rules.specs.Tables.{line_of, read_questions, head_questions}
use Rattle.list_lemmas.proofs.Lists.{map_same, filter_same, list_any_same}
use Rattle.law_lines.specs.Mirror.{Between, IsUntouched, open_of, AfterHead, MirrorsLine, MirrorsClaims, IsInOrder, MirrorsServing, IsBefore}
use Rattle.law_lines.proofs.Ordered.{between-up, between-ends, head-below}
use Rattle.law_lines.proofs.Histories.{AgreeOn, agree-same, untouched-agree, news-plain}

module _ (shape : Shape) (history next : List Past) (agree : (q : Question) → AgreeOn shape q next history) where
  pub table-same : (judge : Judge) (requests : List Taken) (c : state.Serving) → MirrorsLine shape history judge requests c → MirrorsLine shape next judge requests c
  table-same judge requests c m = record {
    line = m.line;
    reads = m.reads ∙ map_same (open_of shape history) (open_of shape next) (λ q. sym (agree-same shape q next history (agree q))) (read_questions (left_of requests));
    asked = m.asked
        ∙ map_same (open_of shape history) (open_of shape next) (λ q. sym (agree-same shape q next history (agree q))) (filter (λ q. not (is_known shape q history)) (head_questions shape (line_of requests)))
        ∙ ap (map (open_of shape next)) (filter_same (λ q. not (is_known shape q history)) (λ q. not (is_known shape q next)) (λ q. ap not (sym (agree q).known)) (head_questions shape (line_of requests)));
    barriers = m.barriers;
  }

  pub order-same : (judge : Judge) (requests : List Taken) (n : ℕ) → IsInOrder shape history judge requests n → IsInOrder shape next judge requests n
  order-same judge requests n o = record {
    rises = o.rises;
    later = o.later;
    inside = o.inside;
    waiting = o.waiting;
    unknown = list_any_same (λ q. is_known shape q next) (λ q. is_known shape q history) (λ q. (agree q).known) (read_questions (left_of requests)) ∙ o.unknown;
    untouched = λ q after. untouched-agree shape q next history (agree q) (o.untouched q after);
    front = o.front;
  }

-- a later event
pub order-up : (shape : Shape) (history : List Past) (judge : Judge) (requests : List Taken) (n m : ℕ) → n ≤ m
    → IsInOrder shape history judge requests n → IsInOrder shape history judge requests m
order-up shape history judge requests n m up o = record {
  rises = between-up 0 n m requests up o.rises;
  later = between-up judge.latest n m (line_of requests) up o.later;
  inside = o.inside;
  waiting = o.waiting;
  unknown = o.unknown;
  untouched = λ q after. o.untouched q (earlier (line_of requests) q.event after);
  front = o.front;
}
  where
    earlier : (line : List Taken) (v : ℕ) → AfterHead line m v → AfterHead line n v
    earlier [] v after = omega (arith, up, after)
    earlier (w ∷ line) v after = after

-- what is asked from event n on comes after the head
pub after-all : (shape : Shape) (history : List Past) (judge : Judge) (requests : List Taken) (n : ℕ) → IsInOrder shape history judge requests n
    → (q : Question) → n ≤ q.event → IsUntouched shape history q
after-all shape history judge requests n o q up = o.untouched q (after (line_of requests) o.later)
  where
    after : (line : List Taken) → Between judge.latest line n → AfterHead line n q.event
    after [] b = up
    after (w ∷ line) b = let h = head-below judge.latest n w line b in omega (arith, h, up)

-- what holds before event n, of a client that serves
pub before-serving : (shape : Shape) (history : List Past) (judge : Judge) (requests : List Taken) (n : ℕ) → IsInOrder shape history judge requests n
    → ((v : ℕ) → has_ended judge v ≡ true → v < n) → IsBefore shape history judge n
before-serving shape history judge requests n o ended = record {
  ended = ended;
  untouched = after-all shape history judge requests n o;
  latest = between-ends judge.latest n (line_of requests) o.later;
}

-- news that is no claim of that session
abbrev pub IsNoClaim : ℕ → News → Type 0
IsNoClaim session news = (s : ℕ) (name : NodeName) → is_claim session s name news ≡ false

pub claims-plain : (history : List Past) (p : Past) (judge : Judge) (c : state.Serving) → opens p ≡ false → IsNoClaim judge.now.session p.news
    → MirrorsClaims history judge c → MirrorsClaims (p ∷ history) judge c
claims-plain history p judge c not_open unclaimed m name s up =
    m name s up
    ∙ ap (λ t. t || list_any (λ x. is_claim judge.now.session s name x) (news_since opens history)) (sym (unclaimed s name))
    ∙ ap (list_any (λ x. is_claim judge.now.session s name x)) (sym (news-plain history p not_open))

-- a step after which nothing has changed
pub serving-same : (shape : Shape) (history : List Past) (p : Past) (judge : Judge) (n m : ℕ) (c : state.Serving) → n ≤ m
    → ((q : Question) → AgreeOn shape q (p ∷ history) history) → phase_of (p ∷ history) ≡ phase_of history → live (p ∷ history) judge ≡ live history judge
    → opens p ≡ false → IsNoClaim judge.now.session p.news
    → MirrorsServing shape history judge n c → MirrorsServing shape (p ∷ history) judge m c
serving-same shape history p judge n m c up agree phase lives not_open unclaimed s = record {
  serves = phase ∙ s.serves;
  counts = s.counts;
  table = subst (λ rs. MirrorsLine shape (p ∷ history) judge rs c) (sym lives) (table-same shape history (p ∷ history) agree judge (live history judge) c s.table);
  order = subst (λ rs. IsInOrder shape (p ∷ history) judge rs m) (sym lives)
      (order-same shape history (p ∷ history) agree judge (live history judge) m (order-up shape history judge (live history judge) n m up s.order));
  claims = claims-plain history p judge c not_open unclaimed s.claims;
}
