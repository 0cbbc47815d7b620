use Rattle.std.proofs.Common.{Some}
use Rattle.pipelined_commit.specs.Standing.{KeptLeader}
use Rattle.pipelined_commit.proofs.Notes.{given_is}
use Rattle.pipelined_commit.proofs.Chosen.{given_claimable, given_least, given_steps}
use Rattle.pipelined_commit.proofs.leader.Leader.advance.Goals as goal

pub returns-in-Some-clause-given : goal.returns-in-Some-clause-given
returns-in-Some-clause-given c = λ leader stands.
    let kept : KeptLeader = record {
      shape = c.self.inside.votes.shape;
      region = c.self.inside.region;
      base = c.self.inside.base;
      front = c.self.inside.front;
      noted = c.self.inside.noted.items;
      votes = c.self.inside.votes;
      claims = c.self.inside.claims;
    } in
    given_is kept c.args.self.now c.self.view_is c.as_slice.result.now c.as_slice.ensures.value (Some c.in-Some.seq) c.in-Some.ensures.first leader stands

pub returns-in-Some-clause-claimable : goal.returns-in-Some-clause-claimable
returns-in-Some-clause-claimable c = λ leader stands.
    let kept : KeptLeader = record {
      shape = c.self.inside.votes.shape;
      region = c.self.inside.region;
      base = c.self.inside.base;
      front = c.self.inside.front;
      noted = c.self.inside.noted.items;
      votes = c.self.inside.votes;
      claims = c.self.inside.claims;
    } in
    given_claimable c.args.self.now.shape leader (Some c.in-Some.seq) (given_is kept c.args.self.now c.self.view_is c.as_slice.result.now c.as_slice.ensures.value (Some c.in-Some.seq) c.in-Some.ensures.first leader stands)

pub returns-in-Some-clause-least : goal.returns-in-Some-clause-least
returns-in-Some-clause-least c = λ leader h stands may.
    let kept : KeptLeader = record {
      shape = c.self.inside.votes.shape;
      region = c.self.inside.region;
      base = c.self.inside.base;
      front = c.self.inside.front;
      noted = c.self.inside.noted.items;
      votes = c.self.inside.votes;
      claims = c.self.inside.claims;
    } in
    given_least kept c.args.self.now c.self.view_is c.self.invariant.1 (Some c.in-Some.seq) leader h stands
    (given_is kept c.args.self.now c.self.view_is c.as_slice.result.now c.as_slice.ensures.value (Some c.in-Some.seq) c.in-Some.ensures.first leader stands) may

pub returns-in-Some-clause-first : goal.returns-in-Some-clause-first
returns-in-Some-clause-first c = λ leader stands.
    let kept : KeptLeader = record {
      shape = c.self.inside.votes.shape;
      region = c.self.inside.region;
      base = c.self.inside.base;
      front = c.self.inside.front;
      noted = c.self.inside.noted.items;
      votes = c.self.inside.votes;
      claims = c.self.inside.claims;
    } in
    given_steps kept c.args.self.now c.self.view_is c.self.invariant.1 (Some c.in-Some.seq) leader stands
    (given_is kept c.args.self.now c.self.view_is c.as_slice.result.now c.as_slice.ensures.value (Some c.in-Some.seq) c.in-Some.ensures.first leader stands)

pub returns-in_default-clause-given : goal.returns-in_default-clause-given
returns-in_default-clause-given c = λ leader stands.
    let kept : KeptLeader = record {
      shape = c.self.inside.votes.shape;
      region = c.self.inside.region;
      base = c.self.inside.base;
      front = c.self.inside.front;
      noted = c.self.inside.noted.items;
      votes = c.self.inside.votes;
      claims = c.self.inside.claims;
    } in
    given_is kept c.args.self.now c.self.view_is c.as_slice.result.now c.as_slice.ensures.value c.first_to_claim-given.result c.first_to_claim-given.ensures.first leader stands

pub returns-in_default-clause-claimable : goal.returns-in_default-clause-claimable
returns-in_default-clause-claimable c = λ leader stands.
    let kept : KeptLeader = record {
      shape = c.self.inside.votes.shape;
      region = c.self.inside.region;
      base = c.self.inside.base;
      front = c.self.inside.front;
      noted = c.self.inside.noted.items;
      votes = c.self.inside.votes;
      claims = c.self.inside.claims;
    } in
    given_claimable c.args.self.now.shape leader c.first_to_claim-given.result (given_is kept c.args.self.now c.self.view_is c.as_slice.result.now c.as_slice.ensures.value c.first_to_claim-given.result c.first_to_claim-given.ensures.first leader stands)

pub returns-in_default-clause-least : goal.returns-in_default-clause-least
returns-in_default-clause-least c = λ leader h stands may.
    let kept : KeptLeader = record {
      shape = c.self.inside.votes.shape;
      region = c.self.inside.region;
      base = c.self.inside.base;
      front = c.self.inside.front;
      noted = c.self.inside.noted.items;
      votes = c.self.inside.votes;
      claims = c.self.inside.claims;
    } in
    given_least kept c.args.self.now c.self.view_is c.self.invariant.1 c.first_to_claim-given.result leader h stands
    (given_is kept c.args.self.now c.self.view_is c.as_slice.result.now c.as_slice.ensures.value c.first_to_claim-given.result c.first_to_claim-given.ensures.first leader stands) may

pub returns-in_default-clause-first : goal.returns-in_default-clause-first
returns-in_default-clause-first c = λ leader stands.
    let kept : KeptLeader = record {
      shape = c.self.inside.votes.shape;
      region = c.self.inside.region;
      base = c.self.inside.base;
      front = c.self.inside.front;
      noted = c.self.inside.noted.items;
      votes = c.self.inside.votes;
      claims = c.self.inside.claims;
    } in
    given_steps kept c.args.self.now c.self.view_is c.self.invariant.1 c.first_to_claim-given.result leader stands
    (given_is kept c.args.self.now c.self.view_is c.as_slice.result.now c.as_slice.ensures.value c.first_to_claim-given.result c.first_to_claim-given.ensures.first leader stands)
