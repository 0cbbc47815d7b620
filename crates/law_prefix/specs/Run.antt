-- A run of the world: it starts as formatted, and each step is one of these.
use Rattle.std.specs.Prelude.{◌≡◌, ℕ, zero, suc, ◌≤◌, ◌<◌, Bool, true, List, [], ◌∷◌, length, ◌⊎◌}
use Rattle.law_prefix.specs.Good.{AllCover, BasesHeld}
use Rattle.law_prefix.specs.Numbers.{Mem}
use Rattle.law_prefix.specs.Images.{Image}
use Rattle.law_prefix.specs.World.{Phase, Closed, Serving, Gathering, Fetching, Staging, Switching, Client, Vote, Claim, Told, Reply, World, Volume, Guarded}
use Rattle.law_prefix.specs.Steps.{Comes, Votes, Licence, TellsStaged, TellsSwitched, Replies, Replaces, Submits, Acks, Asks, Stages, HasTold, AllReplied, IsChoice}

-- the world as it is formatted: session 1 with no batches, its base on every node
pub record IsStart (v : Volume) (w : World) : Type 0 where
  pub some_region : zero < v.regions
  pub lists : (e : ℕ) → w.client.lists e ≡ []
  pub starts : (e : ℕ) → w.client.starts e ≡ zero
  pub known : w.client.known ≡ 1 ∷ zero ∷ []
  pub served : w.client.served ≡ 1
  pub acked : w.client.acked ≡ zero
  pub asked : w.client.asked ≡ 1
  pub phase : w.client.phase ≡ Serving
  pub switches : w.client.switches ≡ []
  pub images : (r : ℕ) (i : Image) → Mem i (w.images r) → i ≡ record { session = 1; base = zero; parts = []; later = [] }
  pub counts : (r : ℕ) → w.counts r ≡ v.honest r
  pub fresh : (r : ℕ) → w.fresh r ≡ v.honest r
  pub votes : w.votes ≡ []
  pub claims : w.claims ≡ []
  pub staged : w.staged ≡ []
  pub switched : w.switched ≡ []
  pub replies : w.replies ≡ []

abbrev pub with_client : World → Client → World
with_client w c = record w { client = c }

abbrev pub is_opened : World → World
is_opened w = record w { client = record w.client { served = w.client.asked; acked = w.client.starts w.client.asked; phase = Serving }; counts = w.fresh }

-- the client after session `asked` was staged
abbrev pub staged_client : Client → (ℕ → List (List ℕ)) → (ℕ → ℕ) → Client
staged_client c lists starts = record c { lists = lists; starts = starts; known = c.asked ∷ c.known; phase = Staging }

pub data Step (v : Volume) : World → World → Type 0 where
  changed : (w : World) (after : ℕ → List Image)
      → ((r : ℕ) (j : Image) → Mem j (after r) → Comes w.client (v.region r) (w.images r) j) → Step v w (record w { images = after })
  voted : (w : World) (t : Vote) → Votes v w t → Step v w (record w { votes = t ∷ w.votes })
  claimed : (w : World) (t : Claim) → Licence v w t → Step v w (record w { claims = t ∷ w.claims })
  told_staged : (w : World) (t : Told) → TellsStaged w t → Step v w (record w { staged = t ∷ w.staged })
  told_switched : (w : World) (t : Told) → TellsSwitched w t → Step v w (record w { switched = t ∷ w.switched })
  replied : (w : World) (t : Reply) → Replies w t → Step v w (record w { replies = t ∷ w.replies })
  replaced : (w : World) (images : ℕ → List Image) (counts fresh : ℕ → Bool) → Replaces w images counts fresh
      → Step v w (record w { images = images; counts = counts; fresh = fresh })
  crashed : (w : World) → Step v w (with_client w (record w.client { phase = Closed }))
  submitted : (w : World) (lists : ℕ → List (List ℕ)) → Submits v w.client (record w.client { lists = lists }) → Step v w (with_client w (record w.client { lists = lists }))
  acked : (w : World) → Acks v w → Step v w (with_client w (record w.client { acked = suc w.client.acked }))
  asked : (w : World) (e : ℕ) (phase : Phase) → Asks w.client e phase → Step v w (record w { client = record w.client { asked = e; phase = phase }; fresh = v.honest })
  chosen : (w : World) (pool : List Reply) (f s : ℕ) (lists : ℕ → List (List ℕ)) (starts : ℕ → ℕ) → w.client.phase ≡ Gathering → AllReplied v w pool → IsChoice v w pool f s
      → Stages v w.client (staged_client w.client lists starts) f s → Step v w (with_client w (staged_client w.client lists starts))
  fetched : (w : World) (lists : ℕ → List (List ℕ)) (starts : ℕ → ℕ) → w.client.phase ≡ Fetching
      → Stages v w.client (staged_client w.client lists starts) w.client.served (length (w.client.lists w.client.served)) → Step v w (with_client w (staged_client w.client lists starts))
  switching : (w : World) → w.client.phase ≡ Staging → ((r : ℕ) → v.honest r ≡ true → HasTold w.staged r w.client.asked)
      → Step v w (with_client w (record w.client { phase = Switching; switches = w.client.asked ∷ w.client.switches }))
  opened : (w : World) → w.client.phase ≡ Switching → ((r : ℕ) → v.honest r ≡ true → HasTold w.switched r w.client.asked) → Step v w (is_opened w)

-- each region has a node that counts before every step, and at the end
pub data Run (v : Volume) : World → World → Type 0 where
  begun : (w : World) → Guarded v w.counts → Run v w w
  further : (w x y : World) → Run v w x → Step v x y → Guarded v y.counts → Run v w y

-- What holds in every state: a claim of a node that counts, or counted when it claimed, is covered; so is each
-- acknowledged batch, and the place of each base of an open session; and where Switch was sent, bases are held.
pub record AllCovered (v : Volume) (w : World) : Type 0 where
  pub claims : (t : Claim) → Mem t w.claims → (w.counts t.node ≡ true) ⊎ (t.counted ≡ true) → AllCover v w t.session t.front
  pub acks : (x : ℕ) → x ≤ w.client.acked → AllCover v w w.client.served x
  pub places : (r : ℕ) → w.counts r ≡ true → (i : Image) → Mem i (w.images r) → AllCover v w i.session i.base
  pub bases : BasesHeld w.client w.images w.counts
