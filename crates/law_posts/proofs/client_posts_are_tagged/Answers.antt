use Rattle.law_posts.proofs.Running.{client_tags}
use Rattle.law_posts.proofs.client_posts_are_tagged.Goals as goal

pub returns : goal.returns
returns c volume events posts trace limits follows spelled by = client_tags volume events posts trace limits follows spelled by
