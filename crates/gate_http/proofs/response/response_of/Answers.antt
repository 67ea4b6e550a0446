use Rattle.std.proofs.Common.{List, ℕ, ap, codes, refl, ◌∙◌}
use Rattle.std.specs.Option.{option_copied}
use Rattle.gate_http.specs.Responses.{field_if, message, response_text}
use Rattle.gate_http.proofs.response.response_of.Goals as goal

pub returns : goal.returns
unfolding response_text
returns c =
    let kind = c.as_str.ensures.value ∙ c.in_ok-kind.ensures in
    let allow = c.as_str-2.ensures.value ∙ c.in_ok-allow.ensures in
    let challenge = c.as_str-3.ensures.value ∙ c.in_ok-challenge.ensures in
    let body = c.args.body.now in
    record {
      status = refl;
      text = c.in_ok-text.ensures
          ∙ ap (λ (bytes : List ℕ). message c.args.status bytes c.as_str-2.result.now c.as_str-3.result.now body) kind
          ∙ ap (λ (bytes : List ℕ). message c.args.status (field_if (codes "Content-Type") (option_copied c.args.kind)) bytes c.as_str-3.result.now body) allow
          ∙ ap (λ (bytes : List ℕ). message c.args.status (field_if (codes "Content-Type") (option_copied c.args.kind)) (field_if (codes "Allow") (option_copied c.args.allow)) bytes body) challenge;
    }
