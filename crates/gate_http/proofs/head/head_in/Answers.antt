use Rattle.std.proofs.Common.{arith}
use Rattle.gate_http.proofs.Fields.{few-fields}
use Rattle.gate_http.proofs.head.head_in.Goals as goal

pub returns-in-Ok-Complete : goal.returns-in-Ok-Complete
returns-in-Ok-Complete c =
    let found = rw c.in-Ok-Complete.field-0-is at c.in-Ok-Complete.ensures.complete in
    let spans = rw c.in-Ok-Complete.field-0-is at c.in-Ok-Complete.ensures.within in
    record {
      head = found.0;
      reads = found.1.reads;
      len = found.1.len;
      line = record {
        method_within = (spans.method.0, omega (arith, spans.method.1, spans.section.len_fits));
        target_within = (spans.path.0, omega (arith, spans.path.1, spans.section.len_fits));
        method = found.1.method;
        target = found.1.path;
      };
      fields = omega (arith, few-fields c.args.bytes.now c.parse_request.new.headers c.in-Ok-Complete.request.headers found.0.fields found.1.fields);
      ask = c.ask_in.ensures found.0 found.1;
    }
