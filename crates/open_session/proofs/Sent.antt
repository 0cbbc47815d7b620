-- What is posted is what the rules send.
use Rattle.std.proofs.Common.{◌≡◌, ◌∙◌, ℕ, Bool, if◌then◌else◌, List, [], ◌∷◌, ◌++◌, map, take, length, ◌≤◌, refl, sym, ap}
use Rattle.std.specs.Prelude.{filter, flat_map}
use Rattle.std.proofs.lemmas.List.{map-append, take_all}
use Rattle.salus_types.specs.Volume.{Shape}
use Rattle.salus_types.specs.declared.names.Sender.TheVariants as sender
use Rattle.salus_types.specs.declared.names.NodeName.{NodeName}
use Rattle.salus_types.specs.declared.records.Header.{Header}
use Rattle.salus_types.specs.declared.records.Record.{Record}
use Rattle.salus_types.specs.declared.records.Out.{Out}
use Rattle.volume_model.specs.Groups.{group_of, all_nodes}
use Rattle.replica_rules.specs.Views.{led_by}
use Rattle.replica_rules.specs.Rules.{vote_for, votes_for, claim_of, claims_of}
use Rattle.posting.specs.Posting.{out_to}
use Rattle.posting.specs.Sendings.{out_of_sending}
use Rattle.open_session.specs.Voting.{ballots_of}
use Rattle.open_session.specs.Claiming.{claims_out}
use Rattle.list_lemmas.proofs.Tests.{way_with}

pub map_after : {A B C : Type 0} (f : B → C) (g : A → B) (xs : List A) → map f (map g xs) ≡ map (λ x. f (g x)) xs
map_after f g [] = refl
map_after f g (x ∷ xs) = ap (λ l. f (g x) ∷ l) (map_after f g xs)

pub map_flat : {A B C : Type 0} (f : B → C) (g : A → List B) (xs : List A) → map f (flat_map g xs) ≡ flat_map (λ x. map f (g x)) xs
map_flat f g [] = refl
map_flat f g (x ∷ xs) = map-append f (g x) (flat_map g xs) ∙ ap (λ l. map f (g x) ++ l) (map_flat f g xs)

pub flat_same : {A B : Type 0} (f g : A → List B) → ((x : A) → f x ≡ g x) → (xs : List A) → flat_map f xs ≡ flat_map g xs
flat_same f g same [] = refl
flat_same f g same (x ∷ xs) = ap (λ l. l ++ flat_map f xs) (same x) ∙ ap (λ l. g x ++ l) (flat_same f g same xs)

pub flat_filter : {A B : Type 0} (test : A → Bool) (f : A → List B) (xs : List A) → flat_map (λ x. if test x then f x else []) xs ≡ flat_map f (filter test xs)
flat_filter test f [] = refl
flat_filter test f (x ∷ xs) =
    ap (λ l. (if test x then f x else []) ++ l) (flat_filter test f xs)
    ∙ way_with (test x) (x ∷ filter test xs) (filter test xs) (λ l. (if test x then f x else []) ++ flat_map f (filter test xs) ≡ flat_map f l)
    (λ pass. ap (λ b. (if b then f x else []) ++ flat_map f (filter test xs)) pass)
    (λ fail. ap (λ b. (if b then f x else []) ++ flat_map f (filter test xs)) fail)

-- the votes for one part
pub votes-sent : (shape : Shape) (rec : Record) → ballots_of shape rec ≡ map out_of_sending (votes_for shape rec)
votes-sent shape rec = sym (map_after out_of_sending (λ (name : NodeName). record { to = sender.Node name; message = vote_for rec }) (group_of shape (led_by rec.header)))

-- and for many
pub all-votes-sent : (shape : Shape) (parts : List Record) → flat_map (λ rec. ballots_of shape rec) parts ≡ map out_of_sending (flat_map (λ rec. votes_for shape rec) parts)
all-votes-sent shape parts =
    flat_same (λ rec. ballots_of shape rec) (λ rec. map out_of_sending (votes_for shape rec)) (λ rec. votes-sent shape rec) parts
    ∙ sym (map_flat out_of_sending (λ rec. votes_for shape rec) parts)

-- and for those that pass a test
pub some-votes-sent : (shape : Shape) (test : Record → Bool) (parts : List Record)
    → flat_map (λ rec. if test rec then ballots_of shape rec else []) parts ≡ map out_of_sending (flat_map (λ rec. votes_for shape rec) (filter test parts))
some-votes-sent shape test parts = flat_filter test (λ rec. ballots_of shape rec) parts ∙ all-votes-sent shape (filter test parts)

-- the claim of a front
pub claim-sent : (shape : Shape) (e front : ℕ) → claims_out shape e front ≡ map out_of_sending (claims_of shape e front)
claim-sent shape e front =
    ap (λ l. out_to sender.Client (claim_of e front) ∷ l)
    (sym (map_after out_of_sending (λ (name : NodeName). record { to = sender.Node name; message = claim_of e front }) (all_nodes shape)))

-- and of all that can be claimed
pub all-claims-sent : (shape : Shape) (e : ℕ) (headers : List Header)
    → flat_map (λ (h : Header). claims_out shape e h.seq) headers ≡ map out_of_sending (flat_map (λ h. claims_of shape e h.seq) headers)
all-claims-sent shape e headers =
    flat_same (λ (h : Header). claims_out shape e h.seq) (λ h. map out_of_sending (claims_of shape e h.seq)) (λ h. claim-sent shape e h.seq) headers
    ∙ sym (map_flat out_of_sending (λ h. claims_of shape e h.seq) headers)

-- ---- after a loop over all parts

pub votes-all : (shape : Shape) (before outs : List Out) (parts : List Record) (i : ℕ) → outs ≡ before ++ flat_map (λ rec. ballots_of shape rec) (take i parts) → length parts ≤ i
    → outs ≡ before ++ map out_of_sending (flat_map (λ rec. votes_for shape rec) parts)
votes-all shape before outs parts i is end =
    is ∙ ap (λ l. before ++ flat_map (λ rec. ballots_of shape rec) l) (take_all i parts end) ∙ ap (λ l. before ++ l) (all-votes-sent shape parts)

pub votes-some : (shape : Shape) (test : Record → Bool) (before outs : List Out) (parts : List Record) (i : ℕ)
    → outs ≡ before ++ flat_map (λ rec. if test rec then ballots_of shape rec else []) (take i parts) → length parts ≤ i
    → outs ≡ before ++ map out_of_sending (flat_map (λ rec. votes_for shape rec) (filter test parts))
votes-some shape test before outs parts i is end =
    is ∙ ap (λ l. before ++ flat_map (λ rec. if test rec then ballots_of shape rec else []) l) (take_all i parts end) ∙ ap (λ l. before ++ l) (some-votes-sent shape test parts)
