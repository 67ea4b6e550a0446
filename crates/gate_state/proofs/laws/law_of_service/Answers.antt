use Rattle.gate_state.specs.Lemmas.Alone.{singles_law}
use Rattle.gate_state.specs.Lemmas.Apart.{queue_law}
use Rattle.gate_state.specs.Lemmas.InOrder.{order_law}
use Rattle.gate_state.specs.Lemmas.Numbers.{numbers_law}
use Rattle.gate_state.specs.Lemmas.Service.{placed_in_service, left_in_service}
use Rattle.gate_state.proofs.laws.law_of_service.Goals as goal

pub returns-clause-places : goal.returns-clause-places
returns-clause-places c = placed_in_service

pub returns-clause-rests : goal.returns-clause-rests
returns-clause-rests c = left_in_service

pub returns-clause-order : goal.returns-clause-order
returns-clause-order c = order_law

pub returns-clause-numbers : goal.returns-clause-numbers
returns-clause-numbers c = numbers_law

pub returns-clause-queues : goal.returns-clause-queues
returns-clause-queues c = queue_law

pub returns-clause-singles : goal.returns-clause-singles
returns-clause-singles c = singles_law
