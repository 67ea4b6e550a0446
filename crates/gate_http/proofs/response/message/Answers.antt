use Rattle.std.proofs.Common.{◌≡◌, IfOk, List, ℕ, ◌++◌, codes, sym, refl, subst, append_assoc}
use Rattle.std.specs.String.{string_bytes}
use Rattle.gate_http.specs.Responses.{field, line_end}
use Rattle.gate_http.proofs.response.message.Goals as goal

-- the same text, with each end of a line before what follows it
ends_first : (status kind length allow challenge body : List ℕ)
    → (codes "HTTP/1.1 " ++ status ++ line_end) ++ (kind ++ (field (codes "Content-Length") length ++ (allow ++ (challenge ++ (field (codes "Connection") (codes "close") ++ (line_end ++ body))))))
    ≡ codes "HTTP/1.1 " ++ (status ++ (line_end ++ (kind ++ (codes "Content-Length: " ++ (length ++ (line_end ++ (allow ++ (challenge ++ (codes "Connection: close\r\n\r\n" ++ body)))))))))
ends_first status kind length allow challenge body =
    rw (append_assoc status line_end (kind ++ (field (codes "Content-Length") length ++ (allow ++ (challenge ++ (field (codes "Connection") (codes "close") ++ (line_end ++ body)))))))
    (rw (append_assoc length line_end (allow ++ (challenge ++ (field (codes "Connection") (codes "close") ++ (line_end ++ body))))) refl)

pub returns : goal.returns
returns c = subst (λ (bytes : List ℕ). IfOk c.format.result (λ text. string_bytes text ≡ bytes)) (sym (ends_first _ c.args.kind.now _ c.args.allow.now c.args.challenge.now c.args.body.now)) c.format.ensures.ok
