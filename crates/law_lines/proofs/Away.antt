-- A client that doesn't serve: what keeps it as it is, and what ends or begins its phase.
use Rattle.std.proofs.Common.{◌≡◌, ℕ, ◌<◌, ◌≤◌, Bool, true, false, ◌&&◌, ◌||◌, ◌∙◌, if◌then◌else◌, List, [], ◌∷◌, None, refl, ap, ap₂, sym, arith}
use Rattle.std.specs.List.{list_any, list_all}
use Rattle.std.proofs.lemmas.Bool.{and_parts}
use Rattle.salus_types.specs.Volume.{Shape}
use Rattle.salus_types.specs.declared.names.NodeName.{NodeName}
use Rattle.schedule_text.specs.declared.schedule.Volume.{Volume}
use Rattle.salus_model.specs.declared.trace.Request.TheVariants as request
use Rattle.salus_model.specs.declared.trace.TraceStep.{TraceStep}
use Rattle.salus_model.specs.Judge.{Judge}
use Rattle.salus_model.specs.Hearing.{News, Asks, Past, since, news_since, begins, stages, is_serving, phase_of}
use Rattle.volume_model.specs.Groups.{all_nodes}
use Rattle.salus_model.specs.Waiting.{Question, same_question, questions, live, has_ended}
use Rattle.salus_model.specs.Answering.{verdict_in}
use Rattle.salus_model.specs.Opening.{has_replied, reply_in, with_reply, replies_to, pool_of, says_staged, says_switched, all_staged, has_switched}
use Rattle.client_rules.specs.State as state
use Rattle.law_lines.specs.Mirror.{IsBefore}
use Rattle.law_lines.specs.Mirrors.{MirrorsGathering, MirrorsFetching, MirrorsStaging, MirrorsSwitching, IsYoung}
use Rattle.law_lines.proofs.Histories.{past, AgreeOn, agree-none, untouched-agree}

-- ---- what keeps a phase

pub news-begins : (history : List Past) (p : Past) → begins p ≡ false → news_since begins (p ∷ history) ≡ p.news ∷ news_since begins history
unfolding since
news-begins history p begins_not = rw begins_not refl

pub replies-kept : (history : List Past) (p : Past) (e : ℕ) → begins p ≡ false → reply_in e p.news ≡ []
    → replies_to e (news_since begins (p ∷ history)) ≡ replies_to e (news_since begins history)
unfolding replies_to
replies-kept history p e begins_not none =
    ap (replies_to e) (news-begins history p begins_not) ∙ ap (with_reply (replies_to e (news_since begins history))) none

pub gathering-kept : (volume : Volume) (history : List Past) (p : Past) (g : state.Gathering) → phase_of (p ∷ history) ≡ phase_of history → begins p ≡ false
    → reply_in g.session p.news ≡ [] → MirrorsGathering volume history g → MirrorsGathering volume (p ∷ history) g
gathering-kept volume history p g phase begins_not none m =
    let same = replies-kept history p g.session begins_not none in
    record {
      phase = phase ∙ m.phase;
      answered = λ name. m.answered name ∙ ap (has_replied name) (sym same);
      pool = m.pool ∙ ap (pool_of volume.geometry volume.key) (sym same);
    }

pub fetching-kept : (history : List Past) (p : Past) (judge : Judge) (f : state.Fetching) → phase_of (p ∷ history) ≡ phase_of history
    → MirrorsFetching history judge f → MirrorsFetching (p ∷ history) judge f
fetching-kept history p judge f phase m = record { phase = phase ∙ m.phase; served = m.served; last = m.last; contents = m.contents }

pub news-stages : (history : List Past) (p : Past) → stages p ≡ false → news_since stages (p ∷ history) ≡ p.news ∷ news_since stages history
unfolding since
news-stages history p not_staged = rw not_staged refl

-- more news, and still all have staged
more-any : (e : ℕ) (name : NodeName) (x : News) (news : List News) → list_any (λ y. says_staged e name y) news ≡ true → list_any (λ y. says_staged e name y) (x ∷ news) ≡ true
more-any e name x news is = ap (λ t. says_staged e name x || t) is ∙ or_true (says_staged e name x)
  where
    or_true : (b : Bool) → (b || true) ≡ true
    or_true true = refl
    or_true false = refl

more-all : (e : ℕ) (x : News) (news : List News) (names : List NodeName) → list_all (λ name. list_any (λ y. says_staged e name y) news) names ≡ true
    → list_all (λ name. list_any (λ y. says_staged e name y) (x ∷ news)) names ≡ true
more-all e x news [] all = refl
more-all e x news (name ∷ names) all =
    let s = and_parts (list_any (λ y. says_staged e name y) news) _ all in ap₂ (λ a b. a && b) (more-any e name x news s.0) (more-all e x news names s.1)

pub all-staged-more : (shape : Shape) (e : ℕ) (x : News) (news : List News) → all_staged shape e news ≡ true → all_staged shape e (x ∷ news) ≡ true
unfolding all_staged
all-staged-more shape e x news all = more-all e x news (all_nodes shape) all

pub staging-kept : (shape : Shape) (history : List Past) (p : Past) (judge : Judge) (b : state.Beginning) → phase_of (p ∷ history) ≡ phase_of history → stages p ≡ false
    → ((name : NodeName) → says_staged b.session name p.news ≡ false) → ((name : NodeName) → says_switched b.session name p.news ≡ false)
    → MirrorsStaging shape history judge b → MirrorsStaging shape (p ∷ history) judge b
unfolding has_switched
staging-kept shape history p judge b phase not_staged staged_not switched_not m = record {
  phase = phase ∙ m.phase;
  begun = m.begun;
  answered = λ name. m.answered name
      ∙ ap (λ t. t || list_any (λ x. says_staged b.session name x) (news_since stages history)) (sym (staged_not name))
      ∙ ap (list_any (λ x. says_staged b.session name x)) (sym (news-stages history p not_staged));
  waits = m.waits;
  switched = λ name. ap (λ news. has_switched shape b.session news name) (news-stages history p not_staged)
      ∙ ap₂ (λ t u. (t && all_staged shape b.session (news_since stages history)) || u) (switched_not name) (m.switched name);
}

pub switching-kept : (shape : Shape) (history : List Past) (p : Past) (judge : Judge) (b : state.Beginning) → phase_of (p ∷ history) ≡ phase_of history → stages p ≡ false
    → ((name : NodeName) → says_switched b.session name p.news ≡ false)
    → MirrorsSwitching shape history judge b → MirrorsSwitching shape (p ∷ history) judge b
unfolding has_switched
switching-kept shape history p judge b phase not_staged switched_not m = record {
  phase = phase ∙ m.phase;
  begun = m.begun;
  staged = ap (all_staged shape b.session) (news-stages history p not_staged) ∙ all-staged-more shape b.session p.news (news_since stages history) m.staged;
  answered = λ name. m.answered name
      ∙ ap (λ t. (t && all_staged shape b.session (news_since stages history)) || has_switched shape b.session (news_since stages history) name) (sym (switched_not name))
      ∙ ap (λ news. has_switched shape b.session news name) (sym (news-stages history p not_staged));
}

-- ---- whatever the client is at, but serving

abbrev pub IsAway : List Past → Type 0
IsAway history = is_serving (phase_of history) ≡ false

pub agree-away : (shape : Shape) (history : List Past) (p : Past) → IsAway history → (q : Question) → AgreeOn shape q (p ∷ history) history
agree-away shape history p away q =
    agree-none shape q history p (ap (λ t. if t && asked_then then verdict_in shape p.before q p.news else None) away)
  where
    asked_then : Bool
    asked_then = list_any (same_question q) (questions shape (live history p.before))

-- the judge's lists of what has ended may only shrink
pub before-away : (shape : Shape) (history : List Past) (p : Past) (judge next : Judge) (n m : ℕ) → IsAway history → n ≤ m
    → ((v : ℕ) → has_ended next v ≡ true → has_ended judge v ≡ true) → next.latest ≡ judge.latest
    → IsBefore shape history judge n → IsBefore shape (p ∷ history) next m
before-away shape history p judge next n m away up fewer latest b = record {
  ended = λ v is. let e = b.ended v (fewer v is) in omega (arith, e, up);
  untouched = λ q late. untouched-agree shape q (p ∷ history) history (agree-away shape history p away q) (b.untouched q (omega (arith, late, up)));
  latest = let l = b.latest in omega (arith, l, latest, up);
}

pub young-now : (judge : Judge) (m : ℕ) (c : state.Client) → IsYoung judge m c → judge.now.session < m
young-now judge m state.Closed y = y
young-now judge m (state.Serves c) y = y
young-now judge m (state.Gathers g) y = let a = y.0 in let b = y.1 in omega (arith, a, b)
young-now judge m (state.Fetches f) y = let a = y.0 in let b = y.1 in omega (arith, a, b)
young-now judge m (state.Stages s) y = let a = y.0 in let b = y.1 in omega (arith, a, b)
young-now judge m (state.Switches s) y = let a = y.0 in let b = y.1 in omega (arith, a, b)

-- ---- a restart

pub restarted-mirrors : (volume : Volume) (history : List Past) (step : TraceStep) (judge : Judge) (e : ℕ)
    → MirrorsGathering volume (past step (Asks (request.Restart e)) judge [] ∷ history) (record { session = e; answered = []; pool = record { bases = []; parts = []; headers = [] } })
unfolding phase_of since replies_to pool_of
restarted-mirrors volume history step judge e = record { phase = refl; answered = λ name. refl; pool = refl }
