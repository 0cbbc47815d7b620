use Rattle.law_claimed.proofs.Heard.{vote_heard, claim_heard}
use Rattle.law_claimed.proofs.Leads.{handled_leads}
use Rattle.law_claimed.proofs.leaders_go_on.Goals as goal

pub returns : goal.returns
returns c = record {
  leads = handled_leads;
  votes = λ shape g node m name bytes v there listed decoded session region. vote_heard shape g node m there name listed bytes v decoded session region;
  claims = λ shape g node m name bytes c there listed decoded session. claim_heard shape g node m there name listed bytes c decoded session;
}
