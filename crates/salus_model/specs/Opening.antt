-- What the nodes told the client while it opens a session. Of each list of news the newest is first.
use Rattle.std.specs.Prelude.{ℕ, Bool, false, ◌==◌, ◌&&◌, ◌||◌, if◌then◌else◌, List, [], ◌∷◌, ◌++◌, map, filter, flat_map, bytes_eq}
use Rattle.std.specs.List.{list_any, list_all}
use Rattle.salus_types.specs.Volume.{Shape}
use Rattle.salus_types.specs.declared.names.NodeName.{NodeName}
use Rattle.salus_types.specs.declared.records.Held.{Held}
use Rattle.salus_types.specs.declared.records.Header.{Header}
use Rattle.salus_message.specs.declared.carried.Dumped.{Dumped}
use Rattle.salus_message.specs.declared.wire.Message.TheVariants as message
use Rattle.merkle_region.specs.Tree.{root_of}
use Rattle.salus_model.specs.Hearing.{News, Says}
use Rattle.volume_model.specs.Groups.{same_node, all_nodes}
use Rattle.volume_model.specs.Recovering.{Pool, record_counts, base_counts}
use Rattle.holding_model.specs.Fitting.{has_shape}

-- ---- what the nodes hold

-- a node's first reply
pub record Reply : Type 0 where
  pub name : NodeName
  pub held : Held

abbrev pub has_replied : NodeName → List Reply → Bool
has_replied name replies = list_any (λ r. same_node r.name name) replies

abbrev pub reply_in : ℕ → News → List Reply
reply_in e (Says name (message.Gathered m)) = if m.session == e then record { name = name; held = m.held } ∷ [] else []
reply_in e other = []

-- a node's later replies don't count
abbrev pub with_reply : List Reply → List Reply → List Reply
with_reply replies [] = replies
with_reply replies (r ∷ rs) = if has_replied r.name replies then replies else replies ++ r ∷ []

-- each node's first reply to the gathering of session e, in the order of arrival
unfoldable pub replies_to : ℕ → List News → List Reply
replies_to e [] = []
replies_to e (news ∷ earlier) = with_reply (replies_to e earlier) (reply_in e news)

abbrev pub all_replied : Shape → List Reply → Bool
all_replied shape replies = list_all (λ name. has_replied name replies) (all_nodes shape)

abbrev pub headers_in : Shape → List ℕ → Held → List Header
headers_in shape key held =
    map (λ base. base.rec.header) (filter (λ base. base_counts shape key base) held.bases) ++ map (λ rec. rec.header) (filter (λ rec. record_counts shape key rec) held.parts)

-- what counts of all replies
unfoldable pub pool_of : Shape → List ℕ → List Reply → Pool
pool_of shape key replies = record {
  bases = filter (λ base. base_counts shape key base) (flat_map (λ r. r.held.bases) replies);
  parts = filter (λ rec. record_counts shape key rec) (flat_map (λ r. r.held.parts) replies);
  headers = flat_map (λ r. headers_in shape key r.held) replies;
}

-- ---- staging and switching

abbrev pub says_staged : ℕ → NodeName → News → Bool
says_staged e name (Says by (message.Staged m)) = same_node by name && (m.session == e)
says_staged e name other = false

abbrev pub says_switched : ℕ → NodeName → News → Bool
says_switched e name (Says by (message.Switched m)) = same_node by name && (m.session == e)
says_switched e name other = false

-- every node has staged session e
unfoldable pub all_staged : Shape → ℕ → List News → Bool
all_staged shape e news = list_all (λ name. list_any (λ x. says_staged e name x) news) (all_nodes shape)

-- the node has switched to it, after every node had staged it
unfoldable pub has_switched : Shape → ℕ → List News → NodeName → Bool
has_switched shape e [] name = false
has_switched shape e (news ∷ earlier) name = (says_switched e name news && all_staged shape e earlier) || has_switched shape e earlier name

abbrev pub all_switched : Shape → ℕ → List News → Bool
all_switched shape e news = list_all (λ name. has_switched shape e news name) (all_nodes shape)

-- ---- fetching

-- the blocks of the region, of that session, from a replica of it, with that root
abbrev pub is_fetched : Shape → ℕ → ℕ → List ℕ → NodeName → Dumped → Bool
is_fetched shape session g root name m =
    (m.session == session) && (m.region == g) && (name.region == g) && has_shape shape m.blocks && bytes_eq (root_of shape.height m.blocks) root
