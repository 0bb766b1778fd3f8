use Rattle.std.proofs.Common.{◌≡◌, ◌+◌, ◌-◌, drop, take, ap, sym, ◌∙◌, rules}
use Rattle.std.proofs.lemmas.List.{drop-drop, take_rest}
use Rattle.sctp_params.specs.ParamFraming.{param_declared_length, param_value_at}
use Rattle.sctp_datagram.proofs.params.param_at.Goals as goal

pub returns-clause-read : goal.returns-clause-read
unfolding param_value_at
returns-clause-read c =
    let rest = take_rest c.args.bytes.now c.args.at in
    let declared : c.read_u16-length.result ≡ param_declared_length (drop c.args.at c.args.bytes.now) = rw rest at c.read_u16-length.ensures in
    record {
      is_param = search rules;
      typ = rw rest at c.read_u16.ensures;
      value_at = search rules;
      value_length = ap (λ n. n - 4) declared;
      value = ap (λ n. take (n - 4) (drop (c.args.at + 4) c.args.bytes.now)) declared
          ∙ ap (take (param_declared_length (drop c.args.at c.args.bytes.now) - 4)) (sym (drop-drop 4 c.args.at c.args.bytes.now));
      later = search rules;
    }
