-- A step of a node keeps the match between the run and the abstract world.
use Rattle.std.proofs.Common.{◌≡◌, ◌∙◌, ◌⊎◌, inl, inr, ⊎_elim, ℕ, zero, ◌<◌, ◌≤◌, ◌==◌, ◌&&◌, not, nat_lt, Bool, true, false, if◌then◌else◌, List, [], ◌∷◌, map, Option, None, Some, Result, Ok, Err, refl, sym, ap, subst, arith}
use Rattle.std.specs.Prelude.{option_map}
use Rattle.std.proofs.lemmas.Bool.{eqb-true, eq-eqb}
use Rattle.salus_types.specs.Volume.{Shape, regions, IsVolume}
use Rattle.salus_types.specs.declared.names.NodeName.{NodeName}
use Rattle.salus_types.specs.declared.names.Sender.{Sender}
use Rattle.salus_types.specs.declared.names.Sender.TheVariants as sender
use Rattle.salus_types.specs.declared.records.Held.{Held}
use Rattle.salus_message.specs.declared.wire.Message.{Message}
use Rattle.salus_message.specs.declared.wire.Message.TheVariants as message
use Rattle.salus_message.specs.declared.wire.MessageError.{MessageError}
use Rattle.salus_message.specs.Reading.{message_at}
use Rattle.salus_message.specs.Spelling.{message_bytes}
use Rattle.schedule_text.specs.Limits.{IsOfVolume}
use Rattle.schedule_text.specs.declared.schedule.Event.{Event}
use Rattle.merkle_region.specs.Tree.{IsAmong}
use Rattle.salus_model.specs.declared.trace.Handed.{Handed}
use Rattle.salus_model.specs.declared.trace.Handed.TheVariants as handed
use Rattle.salus_model.specs.declared.trace.TraceStep.{TraceStep}
use Rattle.salus_model.specs.Following.{Posted, posted_at}
use Rattle.salus_model.specs.Guarding.{is_lied_for, is_replacement, counts}
use Rattle.holding_model.specs.Holding.{nothing_held}
use Rattle.replica_rules.specs.Nodes.{loaded_as}
use Rattle.salus_model.specs.Hearing.{Past}
use Rattle.volume_model.specs.Groups.{is_client, same_node, same_party}
use Rattle.replica_rules.specs.Rules.{Sending}
use Rattle.run_rules.specs.Knowing.{KnownNode, fresh, input_of_post, input_of, outs_to, reloaded, known_to, LoadsRight}
use Rattle.run_rules.specs.Running.{posted_by, posts_between, addresses, IsNodeStep}
use Rattle.list_lemmas.proofs.Members.{among_all, among_map}
use Rattle.list_lemmas.proofs.Lists.{among_between}
use Rattle.list_lemmas.proofs.Tests.{by_bool, and_right}
use Rattle.law_prefix.specs.Numbers.{Mem}
use Rattle.law_prefix.specs.World as abstract
use Rattle.law_prefix.specs.Images.{Image}
use Rattle.law_prefix.specs.Steps.{IsBlank}
use Rattle.law_prefix.specs.Run.{Run, begun, further, replaced}
use Rattle.kept_model.specs.Nodes.{node_number, region_of_node, node_of, is_honest, volume_as}
use Rattle.kept_model.specs.Images.{image_of}
use Rattle.kept_model.specs.Messages.{vote_as, claim_as}
use Rattle.kept_model.specs.Phases.{IsClientOf}
use Rattle.kept_model.specs.Counting.{is_fresh, counts_as, fresh_as}
use Rattle.kept_model.specs.Matching.{images_as, IsAmongSent, AllAmongSent, Matches}
use Rattle.law_refined.specs.Bringing.{NodeFits, ResultFits, HandedFits}
use Rattle.law_refined.specs.Standing.{NodeStands}
use Rattle.law_refined.specs.Stepping.{with_images, Moves, IsReadAmongSent, StaysIn}
use Rattle.law_prefix.proofs.Growing.{split}
use Rattle.law_refined.proofs.Listed.{and_both}
use Rattle.law_refined.proofs.Onward.{node_wider}
use Rattle.law_refined.proofs.Refining.{NodeRefines, step_refines, loaded_stands, nothing_stands, nothing_blank}
use Rattle.law_refined.proofs.Sending.{still_sent}
use Rattle.law_matched.specs.Silent.{silent_past, known_after, AllStandTo, ClientPostsFit, IsHandedRight, StepMatches}
use Rattle.law_matched.proofs.Numbering.{number_of_node, region_numbered, node_numbered, all_numbered, node_is}
use Rattle.law_matched.proofs.History.{client_same, counts_same, fresh_same, counts_none, fresh_none, counts_other, fresh_other}

true_false : true ≡ false → ⊥
true_false e = cc

pub node_of_sender : (a b : NodeName) → sender.Node a ≡ sender.Node b → a ≡ b
node_of_sender a b same = ap (λ (s : Sender). named a s) same where
  named : NodeName → Sender → NodeName
  named d sender.Client = d
  named d (sender.Node name) = name

client_no_node : (name : NodeName) → sender.Client ≡ sender.Node name → ⊥
client_no_node name same = true_false (ap (λ (s : Sender). is_client s) same)

-- ---- what is handed over

module _ (shape : Shape) (limits : IsVolume shape) (events : List Event) (honest_client : is_lied_for events sender.Client ≡ false) (posts : List Posted) (sent : ℕ) (w : abstract.World)
    (messages : AllAmongSent shape events posts sent w) (clients : ClientPostsFit w.client posts sent) where
  abbrev v : abstract.Volume
  v = volume_as shape events

  -- a message of an honest node is one of the abstract world
  node_fits : (other : NodeName) (m : Message) → ((r : ℕ) → is_honest shape events r ≡ true → node_of shape r ≡ other → IsAmongSent shape w other m) → NodeFits shape v w.votes w.claims other m
  node_fits other (message.Prepared m) among = λ r honest same.
      let at : Mem (vote_as shape other m) w.votes = among r honest same in
      record { vote = vote_as shape other m; sent = at; node = ap (λ (n : NodeName). node_number shape n) (sym same) ∙ number_of_node shape limits r; session = refl; same = refl }
  node_fits other (message.Committed m) among = λ r honest same.
      let at : (counted : Bool) × Mem (claim_as shape other counted m) w.claims = among r honest same in
      record { claim = claim_as shape other at.0 m; sent = at.1; node = ap (λ (n : NodeName). node_number shape n) (sym same) ∙ number_of_node shape limits r; session = refl; front = omega arith }
  node_fits other (message.Part m) among = tt
  node_fits other (message.Ask m) among = tt
  node_fits other (message.Answer m) among = tt
  node_fits other (message.Gather m) among = tt
  node_fits other (message.Gathered m) among = tt
  node_fits other (message.Stage m) among = tt
  node_fits other (message.Staged m) among = tt
  node_fits other (message.Switch m) among = tt
  node_fits other (message.Switched m) among = tt
  node_fits other (message.Dump m) among = tt
  node_fits other (message.Dumped m) among = tt

  -- an honest node's number names an honest node
  honest_name : (other : NodeName) (r : ℕ) → is_honest shape events r ≡ true → node_of shape r ≡ other → is_honest shape events (node_number shape other) ≡ true
  honest_name other r honest same = subst (λ x. is_honest shape events x ≡ true) (sym (ap (λ (n : NodeName). node_number shape n) (sym same) ∙ number_of_node shape limits r)) honest

  -- a message that was sent before
  result_fits : (k : ℕ) → (0 < k) × (k ≤ sent) → (m : Posted) → posted_at posts k ≡ Some m → (from : Sender) → m.from ≡ from → (r : Result Message MessageError) → message_at m.bytes ≡ r
      → ResultFits shape v w.client w.votes w.claims from r
  result_fits k before m at from same (Err e) read = tt
  result_fits k before m at sender.Client same (Ok x) read = clients k before.0 before.1 m at same x read
  result_fits k before m at (sender.Node other) same (Ok x) read =
      node_fits other x (λ r honest is. messages k before.0 before.1 m at other same (honest_name other r honest is) x read)

  post_fits : (k : ℕ) → (0 < k) × (k ≤ sent) → (o : Option Posted) → posted_at posts k ≡ o → HandedFits shape v w.client w.votes w.claims (option_map (λ m. input_of_post m) o)
  post_fits k before None at = tt
  post_fits k before (Some m) at = result_fits k before m at m.from refl (message_at m.bytes) refl

  -- a lie is in the name of no honest node
  lie_fits : (from : Sender) (r : Result Message MessageError) → is_lied_for events from ≡ true → ResultFits shape v w.client w.votes w.claims from r
  lie_fits from (Err e) lied = tt
  lie_fits sender.Client (Ok x) lied = absurd (true_false (sym lied ∙ honest_client))
  lie_fits (sender.Node other) (Ok x) lied =
      node_fits other x (λ r honest is.
      let none : not (is_lied_for events (sender.Node (node_of shape r))) ≡ true = and_right (nat_lt (region_of_node shape r) (regions shape)) (not (is_lied_for events (sender.Node (node_of shape r)))) honest in
      let lied_here : is_lied_for events (sender.Node (node_of shape r)) ≡ true = subst (λ (n : NodeName). is_lied_for events (sender.Node n) ≡ true) (sym is) lied in
      absurd (true_false (sym none ∙ ap not lied_here)))

  pub handed_fits : (what : Handed) → IsHandedRight events sent what → HandedFits shape v w.client w.votes w.claims (input_of posts what)
  handed_fits (handed.Deliver k) right = post_fits k right (posted_at posts k) refl
  handed_fits (handed.Stop k) right = post_fits k right (posted_at posts k) refl
  handed_fits (handed.Lie from bytes) right = lie_fits from (message_at bytes) right
  handed_fits handed.Tick right = tt
  handed_fits handed.Crash right = tt
  handed_fits handed.Replace right = tt
  handed_fits (handed.Asked r) right = tt
  handed_fits handed.ClientCrash right = tt

-- ---- the step

-- a node's step posts nothing in the client's name
clients_more : (posts : List Posted) (sent : ℕ) (c : abstract.Client) → ClientPostsFit c posts sent → (name : NodeName) (step : TraceStep) (outs : List Sending) → posts_between posts sent step.sent ≡ posted_by (sender.Node name) outs
    → ClientPostsFit c posts step.sent
clients_more posts sent c clients name step outs messages k up low m at from read is =
    ⊎_elim (λ (old : k ≤ sent). clients k up old m at from read is)
    (λ (new : sent < k).
    let among : IsAmong m (posted_by (sender.Node name) outs) = subst (λ (l : List Posted). IsAmong m l) messages (among_between posts sent step.sent k m at new low) in
    let found = among_map (λ (out : Sending). record { from = sender.Node name; to = out.to; bytes = message_bytes out.message }) m outs among in
    absurd (client_no_node name (sym from ∙ ap (λ (p : Posted). p.from) found.2))) (split k sent)

same_self : (n : NodeName) → same_node n n ≡ true
same_self n = and_both (n.region == n.region) (n.replica == n.replica) (eq-eqb n.region n.region refl) (eq-eqb n.replica n.replica refl)

module _ (shape : Shape) (limits : IsVolume shape) (events : List Event) (honest_client : is_lied_for events sender.Client ≡ false) (posts : List Posted) (history : List Past) (known : NodeName → KnownNode) (sent : ℕ) (w : abstract.World)
    (matches : Matches shape events posts history known sent w) (stand : AllStandTo shape (volume_as shape events) w known) (guarded : abstract.Guarded (volume_as shape events) w.counts)
    (clients : ClientPostsFit w.client posts sent) (blank : Mem zero w.client.known) (name : NodeName) (inside : IsOfVolume shape name) (step : TraceStep) (party : step.party ≡ sender.Node name) where
  abbrev r : ℕ
  r = node_number shape name

  abbrev next : NodeName → KnownNode
  next = known_after shape posts known step

  addressed : (other : NodeName) (b : Bool) → same_node name other ≡ b → addresses other step ≡ b
  addressed other b same = ap (λ (who : Sender). same_party who (sender.Node other)) party ∙ same

  -- the node itself, and the others
  next_here : next name ≡ known_to shape name.region posts (known name) step.handed step.failed step.loaded
  next_here = ap (λ b. if b then known_to shape name.region posts (known name) step.handed step.failed step.loaded else known name) (addressed name true (same_self name))

  next_other : (other : NodeName) → same_node name other ≡ false → next other ≡ known other
  next_other other differ = ap (λ b. if b then known_to shape other.region posts (known other) step.handed step.failed step.loaded else known other) (addressed other false differ)

  module _ (own : IsNodeStep shape posts name (known name) sent step) (stays : StaysIn step.handed) (kept : is_replacement step.handed ≡ false) (right : IsHandedRight events sent step.handed) where
    abbrev outs : List Sending
    outs = outs_to shape name.region posts (known name) step.handed step.failed

    images_here : w.images r ≡ map (λ (held : Held). image_of held) (known name).contents
    images_here = matches.images r ∙ ap (λ (n : NodeName). map (λ (held : Held). image_of held) (known n).contents) (node_numbered shape limits name inside)

    refined : NodeRefines shape limits (volume_as shape events) name (all_numbered shape limits events) (region_numbered shape limits name inside) w guarded blank
        (known_to shape name.region posts (known name) step.handed step.failed step.loaded) outs
    refined = step_refines shape limits (volume_as shape events) name (all_numbered shape limits events) (region_numbered shape limits name inside) w guarded blank posts (known name) step.handed step.failed step.loaded stays own.loads
        (stand name inside) images_here (handed_fits shape limits events honest_client posts sent w matches.messages clients step.handed right)

    abbrev x : abstract.World
    x = refined.refines.after

    moves : Moves (volume_as shape events) w x
    moves = refined.refines.to.moves

    images_after : (q : ℕ) → x.images q ≡ images_as shape next q
    images_after q =
        refined.refines.to.images q
        ∙ by_bool (same_node name (node_of shape q)) (with_images w.images r (map (λ (held : Held). image_of held) (known_to shape name.region posts (known name) step.handed step.failed step.loaded).contents) q ≡ images_as shape next q)
        (λ same.
        let is : name ≡ node_of shape q = node_is name (node_of shape q) same in
        let number : q ≡ r = sym (number_of_node shape limits q) ∙ ap (λ (n : NodeName). node_number shape n) (sym is) in
        ap (λ b. if b then map (λ (held : Held). image_of held) (known_to shape name.region posts (known name) step.handed step.failed step.loaded).contents else w.images q) (eq-eqb q r number)
        ∙ ap (λ (k : KnownNode). map (λ (held : Held). image_of held) k.contents) (sym next_here) ∙ ap (λ (n : NodeName). map (λ (held : Held). image_of held) (next n).contents) is)
        (λ differ.
        let other : (q == r) ≡ false = by_bool (q == r) ((q == r) ≡ false)
        (λ same. let is : node_of shape q ≡ name = ap (λ k. node_of shape k) (eqb-true q r same) ∙ node_numbered shape limits name inside in
        absurd (true_false (sym (subst (λ (n : NodeName). same_node name n ≡ true) (sym is) (same_self name)) ∙ differ))) (λ off. off) in
        ap (λ b. if b then map (λ (held : Held). image_of held) (known_to shape name.region posts (known name) step.handed step.failed step.loaded).contents else w.images q) other
        ∙ matches.images q ∙ ap (λ (k : KnownNode). map (λ (held : Held). image_of held) k.contents) (sym (next_other (node_of shape q) differ)))

    -- a message that was posted in the step is one of the node's
    new_sent : (k : ℕ) → sent < k → k ≤ step.sent → (m : Posted) → posted_at posts k ≡ Some m → (other : NodeName) → m.from ≡ sender.Node other → (read : Message) → message_at m.bytes ≡ Ok read → IsAmongSent shape x other read
    new_sent k above low m at other from read is =
        let among : IsAmong m (posted_by (sender.Node name) outs) = subst (λ (l : List Posted). IsAmong m l) own.messages (among_between posts sent step.sent k m at above low) in
        let found = among_map (λ (out : Sending). record { from = sender.Node name; to = out.to; bytes = message_bytes out.message }) m outs among in
        let mine : other ≡ name = node_of_sender other name (sym from ∙ ap (λ (p : Posted). p.from) found.2) in
        let text : message_at (message_bytes found.0.message) ≡ Ok read = ap (λ (p : Posted). message_at p.bytes) (sym found.2) ∙ is in
        subst (λ (n : NodeName). IsAmongSent shape x n read) (sym mine) (among_all (λ (out : Sending). IsReadAmongSent shape x name out.message) outs found.0 found.1 refined.refines.to.sent read text)

    messages_after : AllAmongSent shape events posts step.sent x
    messages_after k up low m at other from honest read is =
        ⊎_elim (λ (old : k ≤ sent). still_sent shape (volume_as shape events) name.region other read w x moves (matches.messages k up old m at other from honest read is))
        (λ (new : sent < k). new_sent k new low m at other from read is) (split k sent)

    abbrev history_after : List Past
    history_after = silent_past shape events history step ∷ history

    matches_after : Matches shape events posts history_after next step.sent x
    matches_after = record {
      client = subst (λ c. IsClientOf shape events history_after c) (sym moves.client) (client_same shape events history step w.client matches.client);
      images = images_after;
      counts = λ q. ap (λ k. k q) moves.counts ∙ matches.counts q ∙ ap (λ b. nat_lt (region_of_node shape q) (regions shape) && b) (sym (counts_same shape events history step kept (node_of shape q)));
      fresh = λ q. ap (λ k. k q) moves.fresh ∙ matches.fresh q ∙ ap (λ b. nat_lt (region_of_node shape q) (regions shape) && b) (sym (fresh_same shape events history step kept (node_of shape q)));
      messages = messages_after;
    }

    abbrev Still : NodeName → KnownNode → Type 0
    Still other k = NodeStands shape (volume_as shape events) other.region x.client x.votes x.claims k

    still : (other : NodeName) (k : KnownNode) → NodeStands shape (volume_as shape events) other.region w.client w.votes w.claims k → Still other k
    still other k stands =
        subst (λ c. NodeStands shape (volume_as shape events) other.region c x.votes x.claims k) (sym moves.client)
        (node_wider shape (volume_as shape events) other.region w.client w.votes x.votes w.claims x.claims moves.votes moves.claims k stands)

    stand_after : AllStandTo shape (volume_as shape events) x next
    stand_after other valid =
        by_bool (same_node name other) (Still other (next other))
        (λ same.
        let is : name ≡ other = node_is name other same in
        subst (λ (n : NodeName). Still n (next n)) is (subst (λ (k : KnownNode). Still name k) (sym next_here) (still name (known_to shape name.region posts (known name) step.handed step.failed step.loaded) refined.stands)))
        (λ differ. subst (λ (k : KnownNode). Still other k) (sym (next_other other differ)) (still other (known other) (stand other valid)))

    -- the client posts nothing in the step
    clients_after : ClientPostsFit x.client posts step.sent
    clients_after = subst (λ c. ClientPostsFit c posts step.sent) (sym moves.client) (clients_more posts sent w.client clients name step outs own.messages)

    pub step_matches : StepMatches shape events posts history_after next step.sent w
    step_matches = record { after = x; run = moves.run; client = moves.client; matches = matches_after; stand = stand_after; clients = clients_after }

  -- ---- the node is replaced

  module _ (own : IsNodeStep shape posts name (known name) sent step) (is : step.handed ≡ handed.Replace) (counts_fresh : (q : ℕ) → w.counts q ≡ true → w.fresh q ≡ true)
      (guarded_then : abstract.Guarded (volume_as shape events) (counts_as shape events (silent_past shape events history step ∷ history))) where
    abbrev past : List Past
    past = silent_past shape events history step ∷ history

    kind : is_replacement step.handed ≡ true
    kind = ap (λ (what : Handed). is_replacement what) is

    loads : step.loaded ≡ Some nothing_held
    loads = (subst (λ (what : Handed). LoadsRight shape name.region posts (known name) what step.failed step.loaded) is own.loads).1

    blank_node : next name ≡ fresh shape name.region nothing_held
    blank_node =
        next_here ∙ ap (λ (what : Handed). known_to shape name.region posts (known name) what step.failed step.loaded) is
        ∙ ap (λ (o : Option Held). reloaded shape name.region (known name) o) loads

    none_out : outs_to shape name.region posts (known name) step.handed step.failed ≡ []
    none_out = ap (λ (what : Handed). outs_to shape name.region posts (known name) what step.failed) is

    none_posted : posts_between posts sent step.sent ≡ []
    none_posted = own.messages ∙ ap (λ (l : List Sending). posted_by (sender.Node name) l) none_out

    abbrev blank_images : List Image
    blank_images = image_of nothing_held ∷ []

    abbrev images_then : ℕ → List Image
    images_then = with_images w.images r blank_images

    -- what differs of a node by number
    by_node : (q : ℕ) (P : Type 0) → (name ≡ node_of shape q → (q == r) ≡ true → P) → (same_node name (node_of shape q) ≡ false → (q == r) ≡ false → P) → P
    by_node q P same differ =
        by_bool (same_node name (node_of shape q)) P
        (λ e. let n : name ≡ node_of shape q = node_is name (node_of shape q) e in
        same n (eq-eqb q r (sym (number_of_node shape limits q) ∙ ap (λ (k : NodeName). node_number shape k) (sym n))))
        (λ e. differ e (by_bool (q == r) ((q == r) ≡ false)
        (λ here. let n : node_of shape q ≡ name = ap (λ k. node_of shape k) (eqb-true q r here) ∙ node_numbered shape limits name inside in
        absurd (true_false (sym (subst (λ (k : NodeName). same_node name k ≡ true) (sym n) (same_self name)) ∙ e))) (λ off. off)))

    party_differs : (q : ℕ) → same_node name (node_of shape q) ≡ false → same_party step.party (sender.Node (node_of shape q)) ≡ false
    party_differs q e = ap (λ (who : Sender). same_party who (sender.Node (node_of shape q))) party ∙ e

    party_is : (q : ℕ) → name ≡ node_of shape q → step.party ≡ sender.Node (node_of shape q)
    party_is q e = party ∙ ap (λ (n : NodeName). sender.Node n) e

    abbrev Counting : ℕ → Type 0
    Counting q = counts_as shape events past q ≡ true

    counting_then : (q : ℕ) → Counting q → (w.counts q ≡ true) × (images_then q ≡ w.images q)
    counting_then q yes_counts =
        by_node q ((w.counts q ≡ true) × (images_then q ≡ w.images q))
        (λ n here. absurd (true_false (sym (and_right (nat_lt (region_of_node shape q) (regions shape)) (counts events past (node_of shape q)) yes_counts) ∙ counts_none shape events history step kind (node_of shape q) (party_is q n))))
        (λ e other. (
          matches.counts q ∙ ap (λ b. nat_lt (region_of_node shape q) (regions shape) && b) (sym (counts_other shape events history step kind (node_of shape q) (party_differs q e))) ∙ yes_counts,
          ap (λ b. if b then blank_images else w.images q) other,
        ))

    fresh_then : (q : ℕ) → fresh_as shape events past q ≡ true → (w.fresh q ≡ true) × (images_then q ≡ w.images q)
    fresh_then q yes_fresh =
        by_node q ((w.fresh q ≡ true) × (images_then q ≡ w.images q))
        (λ n here. absurd (true_false (sym (and_right (nat_lt (region_of_node shape q) (regions shape)) (is_fresh events past (node_of shape q)) yes_fresh) ∙ fresh_none shape events history step kind (node_of shape q) (party_is q n))))
        (λ e other. (
          matches.fresh q ∙ ap (λ b. nat_lt (region_of_node shape q) (regions shape) && b) (sym (fresh_other shape events history step kind (node_of shape q) (party_differs q e))) ∙ yes_fresh,
          ap (λ b. if b then blank_images else w.images q) other,
        ))

    both_then : (q : ℕ) → Counting q → fresh_as shape events past q ≡ true
    both_then q yes_counts =
        by_node q (fresh_as shape events past q ≡ true)
        (λ n here. absurd (true_false (sym (and_right (nat_lt (region_of_node shape q) (regions shape)) (counts events past (node_of shape q)) yes_counts) ∙ counts_none shape events history step kind (node_of shape q) (party_is q n))))
        (λ e other. ap (λ b. nat_lt (region_of_node shape q) (regions shape) && b) (fresh_other shape events history step kind (node_of shape q) (party_differs q e)) ∙ sym (matches.fresh q) ∙ counts_fresh q (counting_then q yes_counts).0)

    nodes_then : (q : ℕ) (i : Image) → Mem i (images_then q) → Mem i (w.images q) ⊎ IsBlank i
    nodes_then q i at =
        by_node q (Mem i (w.images q) ⊎ IsBlank i)
        (λ n here. ⊎_elim (λ (same : i ≡ image_of nothing_held). inr (subst IsBlank (sym same) nothing_blank)) (λ none. absurd none) (subst (λ l. Mem i l) (ap (λ b. if b then blank_images else w.images q) here) at))
        (λ e other. inl (subst (λ l. Mem i l) (ap (λ b. if b then blank_images else w.images q) other) at))

    abbrev y : abstract.World
    y = record w { images = images_then; counts = counts_as shape events past; fresh = fresh_as shape events past }

    run_then : Run (volume_as shape events) w y
    run_then = further w w y (begun w guarded) (replaced w images_then (counts_as shape events past) (fresh_as shape events past) (record { counting = counting_then; freshness = fresh_then; counts_fresh = both_then; nodes = nodes_then })) guarded_then

    images_match : (q : ℕ) → images_then q ≡ images_as shape next q
    unfolding loaded_as
    images_match q =
        by_node q (images_then q ≡ images_as shape next q)
        (λ n here. ap (λ b. if b then blank_images else w.images q) here ∙ ap (λ (k : KnownNode). map (λ (held : Held). image_of held) k.contents) (sym blank_node)
        ∙ ap (λ (k : NodeName). map (λ (held : Held). image_of held) (next k).contents) n)
        (λ e other. ap (λ b. if b then blank_images else w.images q) other ∙ matches.images q ∙ ap (λ (k : KnownNode). map (λ (held : Held). image_of held) k.contents) (sym (next_other (node_of shape q) e)))

    messages_then : AllAmongSent shape events posts step.sent y
    messages_then k up low m at other from honest read is =
        ⊎_elim (λ (old : k ≤ sent). matches.messages k up old m at other from honest read is)
        (λ (new : sent < k). absurd (subst (λ (l : List Posted). IsAmong m l) none_posted (among_between posts sent step.sent k m at new low))) (split k sent)

    stand_then : AllStandTo shape (volume_as shape events) y next
    stand_then other valid =
        by_bool (same_node name other) (NodeStands shape (volume_as shape events) other.region w.client w.votes w.claims (next other))
        (λ same.
        let n : name ≡ other = node_is name other same in
        subst (λ (k : NodeName). NodeStands shape (volume_as shape events) k.region w.client w.votes w.claims (next k)) n
        (subst (λ (k : KnownNode). NodeStands shape (volume_as shape events) name.region w.client w.votes w.claims k) (sym blank_node)
        (loaded_stands shape (volume_as shape events) name.region w.client w.votes w.claims nothing_held (nothing_stands shape name.region w.client))))
        (λ differ. subst (λ (k : KnownNode). NodeStands shape (volume_as shape events) other.region w.client w.votes w.claims k) (sym (next_other other differ)) (stand other valid))

    pub replaced_matches : StepMatches shape events posts past next step.sent w
    unfolding loaded_as
    replaced_matches = record {
      after = y;
      run = run_then;
      client = refl;
      matches = record {
        client = client_same shape events history step w.client matches.client;
        images = images_match;
        counts = λ q. refl;
        fresh = λ q. refl;
        messages = messages_then;
      };
      stand = stand_then;
      clients = clients_more posts sent w.client clients name step (outs_to shape name.region posts (known name) step.handed step.failed) own.messages;
    }

pub stays_kept : (what : Handed) → StaysIn what → is_replacement what ≡ false
stays_kept (handed.Deliver k) stays = refl
stays_kept (handed.Stop k) stays = refl
stays_kept (handed.Lie from bytes) stays = refl
stays_kept handed.Tick stays = refl
stays_kept handed.Crash stays = refl
stays_kept handed.Replace stays = absurd stays
stays_kept (handed.Asked r) stays = refl
stays_kept handed.ClientCrash stays = refl
