use Rattle.std.proofs.Common.{◌≡◌, ◌++◌, ℕ, List, ap, ◌∙◌, rules}
use Rattle.std.specs.Option.{option_copied}
use Rattle.gate_queue.proofs.touching.that_may_join.Goals as goal
use Rattle.gate_queue.specs.Touching.{losing, number_of}
use Rattle.gate_state.specs.Lanes.{is_fresh_beside, is_fresh_of, last_so}

pub returns : goal.returns
returns c =
    let lane = c.args.queue.now.staging in
    let of_staging : List ℕ = losing c.args.change lane in
    let of_trying : List ℕ = losing c.args.change c.args.queue.now.trying in
    let first : c.push_losing.new.numbers.items ≡ of_staging = c.in_ok-push_losing.ensures ∙ ap (λ (l : List ℕ). l ++ of_staging) c.new-numbers.ensures.items in
    let second : c.push_losing-2.new.numbers.items ≡ of_staging ++ of_trying = c.in_ok-push_losing-2.ensures ∙ ap (λ (l : List ℕ). l ++ of_trying) first in
    let fresh : option_copied c.last_fresh.result ≡ last_so (is_fresh_of c.args.priority) lane.waiting = search rules in
    let beside : option_copied c.last_fresh_beside-beside.result ≡ last_so (is_fresh_beside c.args.priority c.args.change) lane.waiting = search rules in
    let third = c.in_ok-push_number.ensures ∙ (λ i. second i ++ number_of (fresh i)) in
    c.in_ok-push_number-2.ensures ∙ (λ i. third i ++ number_of (beside i))
