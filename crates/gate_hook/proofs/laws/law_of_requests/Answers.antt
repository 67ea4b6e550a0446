use Rattle.gate_hook.proofs.OneWish.{one-wish}
use Rattle.gate_hook.proofs.OnRequests.{requests_law, request_histories_law}
use Rattle.gate_hook.proofs.Bearing.{tokens_law}
use Rattle.gate_hook.proofs.laws.law_of_requests.Goals as goal

pub returns-clause-one : goal.returns-clause-one
returns-clause-one c = one-wish

pub returns-clause-token : goal.returns-clause-token
returns-clause-token c = tokens_law

pub returns-clause-headline : goal.returns-clause-headline
returns-clause-headline c = requests_law c.law_of_deliveries.ensures.headline

pub returns-clause-history : goal.returns-clause-history
returns-clause-history c = request_histories_law c.law_of_deliveries.ensures.history
