use Rattle.std.proofs.Common.{Ok, ap, subst, ◌∙◌}
use Rattle.salus_types.specs.declared.records.Record.{Record}
use Rattle.salus_types.specs.Outcome.{Gives}
use Rattle.salus_codec.specs.Reading.{Field, field_fault}
use Rattle.client_tag.specs.Reading.{record_at}
use Rattle.client_tag.proofs.RecordLaws.{record_found, record_alone, record_again}
use Rattle.client_tag.proofs.record_bytes.read_record.Goals as goal

pub returns-clause-found : goal.returns-clause-found
returns-clause-found c = record_found c.args.fields.now c.read_parts.new.fields c.read_parts.result c.read_parts.ensures.fits c.read_parts.ensures.exact

pub returns-clause-only : goal.returns-clause-only
returns-clause-only c = λ r after counts widths e. subst (λ (f : Field Record). Gives (λ x. Ok (x, c.read_parts.new.fields)) field_fault c.read_parts.result f) (ap record_at e ∙ record_again r after counts widths) c.read_parts.ensures.exact

pub returns-clause-alone : goal.returns-clause-alone
returns-clause-alone c = record_alone c.args.fields.now c.read_parts.new.fields c.read_parts.result c.read_parts.ensures.fits c.read_parts.ensures.exact
