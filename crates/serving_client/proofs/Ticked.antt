-- What is sent at a tick.
use Rattle.std.proofs.Common.{◌≡◌, ◌∙◌, List, ◌++◌, map, refl, sym, ap, subst, append_assoc}
use Rattle.std.specs.Prelude.{flat_map}
use Rattle.std.proofs.lemmas.List.{map-append}
use Rattle.salus_types.specs.Volume.{Shape}
use Rattle.salus_types.specs.declared.records.Out.{Out}
use Rattle.schedule_text.specs.declared.schedule.Volume.{Volume}
use Rattle.posting.specs.Letters.{out_of_letter}
use Rattle.client_rules.specs.State.{Letter, Open, Serving, Unacked}
use Rattle.client_rules.specs.Tables.{asks}
use Rattle.client_rules.specs.Serving.{ticked_here}
use Rattle.client_rules.specs.Submitting.{part_letters}
use Rattle.serving_client.specs.declared.inside.Core.{Core}
use Rattle.serving_client.specs.Keeping.{kept_of}
use Rattle.serving_client.specs.Standing.{StandsFor}

three_sent : (a b d : List Letter) (first second third last : List Out) → second ≡ first ++ map out_of_letter a → third ≡ second ++ map out_of_letter b → last ≡ third ++ map out_of_letter d
    → last ≡ first ++ map out_of_letter (a ++ b ++ d)
three_sent a b d first second third last one two three =
    three ∙ ap (λ l. l ++ map out_of_letter d) (two ∙ ap (λ l. l ++ map out_of_letter b) one ∙ append_assoc first (map out_of_letter a) (map out_of_letter b))
    ∙ append_assoc first (map out_of_letter a ++ map out_of_letter b) (map out_of_letter d)
    ∙ ap (λ l. first ++ l) (sym (map-append out_of_letter (a ++ b) d ∙ ap (λ l. l ++ map out_of_letter d) (map-append out_of_letter a b)))

ticked_by : (shape : Shape) (c : Serving) (asked reads : List Open) (first second third last : List Out) → asked ≡ c.asked → reads ≡ c.reads
    → second ≡ first ++ map out_of_letter (part_letters shape (flat_map (λ (u : Unacked). u.parts) c.unacked))
    → third ≡ second ++ map out_of_letter (flat_map (λ (o : Open). asks shape c o.question) asked)
    → last ≡ third ++ map out_of_letter (flat_map (λ (o : Open). asks shape c o.question) reads)
    → last ≡ first ++ map out_of_letter (ticked_here shape c)
unfolding ticked_here
ticked_by shape c asked reads first second third last same_asked same_reads one two three =
    three_sent (part_letters shape (flat_map (λ (u : Unacked). u.parts) c.unacked)) (flat_map (λ (o : Open). asks shape c o.question) c.asked) (flat_map (λ (o : Open). asks shape c o.question) c.reads) first second third last one
    (two ∙ ap (λ l. second ++ map out_of_letter (flat_map (λ (o : Open). asks shape c o.question) l)) same_asked)
    (three ∙ ap (λ l. third ++ map out_of_letter (flat_map (λ (o : Open). asks shape c o.question) l)) same_reads)

pub all_again : (volume : Volume) (k : Core) (c : Serving) → StandsFor volume (kept_of k) c → (first second third last : List Out)
    → second ≡ first ++ map out_of_letter (part_letters k.pipeline.window.shape (flat_map (λ (u : Unacked). u.parts) c.unacked))
    → third ≡ second ++ map out_of_letter (flat_map (λ (o : Open). asks k.pipeline.window.shape c o.question) k.asked.asked)
    → last ≡ third ++ map out_of_letter (flat_map (λ (o : Open). asks k.pipeline.window.shape c o.question) k.reads.asked)
    → last ≡ first ++ map out_of_letter (ticked_here volume.geometry c)
all_again volume k c stands first second third last one two three =
    subst (λ s. last ≡ first ++ map out_of_letter (ticked_here s c)) (sym stands.volume_is.geometry)
    (ticked_by k.pipeline.window.shape c k.asked.asked k.reads.asked first second third last stands.asked stands.reads one two three)
