-- Claims and acknowledgements: a client acknowledges all that it may.
use Rattle.std.specs.Prelude.{◌≡◌, ℕ, ◌+◌, ◌<◌, ◌≤◌, true, false, List, [], ◌∷◌}
use Rattle.std.specs.List.{list_any, AllByRecursion}
use Rattle.salus_types.specs.Volume.{Shape}
use Rattle.salus_types.specs.declared.names.NodeName.{NodeName}
use Rattle.salus_message.specs.declared.wire.Message.TheVariants as message
use Rattle.schedule_text.specs.declared.schedule.Event.{Event}
use Rattle.merkle_region.specs.Tree.{IsAmong}
use Rattle.volume_model.specs.Groups.{group_of}
use Rattle.volume_model.specs.Parts.{batch_at, leader_of}
use Rattle.salus_model.specs.Judge.{last_number}
use Rattle.salus_model.specs.Hearing.{News, Says, Past, news_since, opens, is_serving, phase_of, judge_of}
use Rattle.salus_model.specs.Due.{is_claim}
use Rattle.client_rules.specs.State.{Claimed, Unacked, Serving}
use Rattle.client_rules.specs.Tables.{all_claimed}

-- the first batch that isn't acknowledged isn't claimed by every replica of its leader
abbrev pub Stops : Shape → List Claimed → ℕ → List Unacked → Type 0
Stops shape claims acked [] = Unit {0}
Stops shape claims acked (u ∷ us) = all_claimed shape claims u.leader (acked + 1) ≡ false

-- a client that has acknowledged all that it may, and knows of no claim above its last number
pub record IsStopped (shape : Shape) (c : Serving) : Type 0 where
  pub stops : Stops shape c.claims c.acked c.unacked
  pub below : AllByRecursion (λ x. x.front ≤ c.last) c.claims

-- a claim of that session, if one is heard, is of no batch above that number
abbrev pub HearsWithin : ℕ → ℕ → News → Type 0
HearsWithin session last (Says name (message.Committed m)) = m.session ≡ session → m.front ≤ last
HearsWithin session last other = Unit {0}

-- each claim that the client hears of the session opened last is of a batch that was submitted before
abbrev pub ClaimsWithin : List Past → Type 0
ClaimsWithin history = AllByRecursion (λ p. HearsWithin p.before.now.session (last_number p.before) p.news) history

-- if the client serves, it has heard of each batch of the session opened last, that isn't acknowledged, that every replica of its
-- leader claims it
abbrev pub EachClaimed : Shape → List Event → List Past → Type 0
EachClaimed shape events history =
    is_serving (phase_of history) ≡ true → (s : ℕ) → (judge_of shape events history).acked < s → s ≤ last_number (judge_of shape events history)
    → (name : NodeName) → IsAmong name (group_of shape (leader_of shape (batch_at (judge_of shape events history).now s)))
    → list_any (λ x. is_claim (judge_of shape events history).now.session s name x) (news_since opens history) ≡ true
