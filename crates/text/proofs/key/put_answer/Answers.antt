use Rattle.std.proofs.Common.{vec_items, ap, arith}
use Rattle.std.specs.Option.{option_map}
use Rattle.packet.specs.Faults.{refusal_of}
use Rattle.packet.specs.Readings.{span_of}
use Rattle.text.proofs.Answered.{read_text, refused_text}
use Rattle.text.proofs.Appends.{as_text}
use Rattle.text.proofs.key.put_answer.Goals as goal

pub returns-in-Ok : goal.returns-in-Ok
returns-in-Ok c =
    let h = c.in-Ok.ensures in
    record {
      items =
          as_text {a = vec_items c.args.out.now} {b = vec_items c.put_reading.new.out}
          (read_text c.args.port c.args.frame.now c.in-Ok.reading.key (option_map span_of c.in-Ok.reading.ipv4) (option_map span_of c.in-Ok.reading.transport) h.0 h.1 h.2 h.3)
          c.put_reading.ensures.items;
      len = omega arith;
      capacity = omega arith;
    }

pub returns-in-Err : goal.returns-in-Err
returns-in-Err c =
    let r = c.from.result in
    record {
      items =
          as_text {a = vec_items c.args.out.now} {b = vec_items c.put_refusal.new.out}
          (refused_text c.args.port c.args.frame.now (refusal_of c.in-Err.fault) r.number r.detail c.in-Err.ensures (ap (λ p. p.0) c.from.ensures) (ap (λ p. p.1) c.from.ensures))
          c.put_refusal.ensures.items;
      len = omega arith;
      capacity = omega arith;
    }
