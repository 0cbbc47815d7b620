-- How parts lead from one view to another.
use Rattle.std.specs.Prelude.{◌≡◌, ◌<◌, IsTrue, List, [], ◌∷◌}
use Rattle.salus_types.specs.Volume.{Shape}
use Rattle.salus_types.specs.declared.records.Record.{Record}
use Rattle.replica_rules.specs.Views.{View, view_after, is_accepted}

-- Applied one after another, these parts make one view of another: each goes on from the number of the view before it to a
-- higher one, and the blocks after it have the root that it names.
unfoldable pub LeadTo : Shape → View → List Record → View → Type 0
LeadTo shape view [] later = later ≡ view
LeadTo shape view (rec ∷ parts) later =
    (rec.header.previous ≡ view.number) × (view.number < rec.header.seq) × IsTrue (is_accepted shape view rec) × LeadTo shape (view_after shape view rec) parts later
