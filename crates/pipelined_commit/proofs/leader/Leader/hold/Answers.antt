use Rattle.std.proofs.Common.{◌∙◌, sym}
use Rattle.pipelined_commit.specs.Standing.{KeptLeader}
use Rattle.pipelined_commit.proofs.Notes.{holds}
use Rattle.pipelined_commit.proofs.leader.Leader.hold.Goals as goal

pub returns-then-led_by-self-clause-noted : goal.returns-then-led_by-self-clause-noted
returns-then-led_by-self-clause-noted c =
    let kept : KeptLeader = record {
      shape = c.self.inside.votes.shape;
      region = c.self.inside.region;
      base = c.self.inside.base;
      front = c.self.inside.front;
      noted = c.self.inside.noted.items;
      votes = c.self.inside.votes;
      claims = c.self.inside.claims;
    } in
    holds kept c.args.self.now c.self.view_is c.args.header.now c.note_header.new.noted.items (sym c.led_by.ensures ∙ c.if-led_by-self.true) c.note_header.ensures.items
