use Rattle.std.proofs.Common.{◌≡◌, [], Some, None, refl, sym, ap, ◌∙◌}
use Rattle.cose_msg.specs.Phases.{headers_so_far, nil_fault_within, payload_fault_within}
use Rattle.cose_msg.specs.Reader.{IsAtPayload}
use Rattle.cose_msg.specs.Source.{attached, came_of, detached, source_with}
use Rattle.cose_msg.specs.Task.{Task}
use Rattle.cose_msg.proofs.lemmas.Reader.Meanings.{along}
use Rattle.cose_msg.proofs.reader.Reader.past_payload_head.Goals as goal

pub returns-in-Some-fault_of_nil : goal.returns-in-Some-fault_of_nil
returns-in-Some-fault_of_nil g c = record {
  reads_on = λ task known st e none key same bare fed.
      let source : task.setting.source ≡ detached (came_of task.setting.source) c.in-Some.detached_length = sym st ∙ ap (source_with (came_of task.setting.source)) c.in-Some.is in
      let fault : nil_fault_within task.setting.payload_limit c.in-Some.detached_length c.args.head ≡ Some c.in-Some-fault_of_nil.reason = ap (λ (t : Task). nil_fault_within t.setting.payload_limit c.in-Some.detached_length c.args.head) (sym e.0) ∙ sym c.in-Some-fault_of_nil.ensures in
      along c.refuse.new.self _ _ (λ z. rw (source, fault) refl) (c.refuse.ensures task [] c.args.at (headers_so_far known.headers []) e refl);
}

pub returns-in-None-fault_of_nil : goal.returns-in-None-fault_of_nil
returns-in-None-fault_of_nil g c = record {
  reads_on = λ task known st e none key same bare fed.
      let source : task.setting.source ≡ detached (came_of task.setting.source) c.in-Some.detached_length = sym st ∙ ap (source_with (came_of task.setting.source)) c.in-Some.is in
      let fault : nil_fault_within task.setting.payload_limit c.in-Some.detached_length c.args.head ≡ None = ap (λ (t : Task). nil_fault_within t.setting.payload_limit c.in-Some.detached_length c.args.head) (sym e.0) ∙ sym c.in-None-fault_of_nil.ensures in
      let at_payload : IsAtPayload task known c.hash_front.new.self c.args.payload_head.kind c.in-Some.detached_length = c.hash_front.ensures.opened task known e none key same bare fed in
      along c.await_payload.new.self _ _ (λ z. rw (source, fault) refl) (c.await_payload.ensures.reads_on task known (came_of task.setting.source) at_payload source);
}

pub returns-in-Some-fault_of_payload : goal.returns-in-Some-fault_of_payload
returns-in-Some-fault_of_payload g c = record {
  reads_on = λ task known st e none key same bare fed.
      let source : task.setting.source ≡ attached = sym st ∙ ap (source_with (came_of task.setting.source)) c.in-None.is in
      let fault : payload_fault_within task.setting.payload_limit c.args.head ≡ Some c.in-Some-fault_of_payload.reason = ap (λ (t : Task). payload_fault_within t.setting.payload_limit c.args.head) (sym e.0) ∙ sym c.in-Some-fault_of_payload.ensures in
      along c.refuse-in-Some-fault_of_payload.new.self _ _ (λ z. rw (source, fault) refl) (c.refuse-in-Some-fault_of_payload.ensures task [] c.args.at (headers_so_far known.headers []) e refl);
}

pub returns-in-None-fault_of_payload : goal.returns-in-None-fault_of_payload
returns-in-None-fault_of_payload g c = record {
  reads_on = λ task known st e none key same bare fed.
      let source : task.setting.source ≡ attached = sym st ∙ ap (source_with (came_of task.setting.source)) c.in-None.is in
      let fault : payload_fault_within task.setting.payload_limit c.args.head ≡ None = ap (λ (t : Task). payload_fault_within t.setting.payload_limit c.args.head) (sym e.0) ∙ sym c.in-None-fault_of_payload.ensures in
      let at_payload : IsAtPayload task known c.hash_front-in-None-fault_of_payload.new.self c.args.payload_head.kind c.args.head.arg = c.hash_front-in-None-fault_of_payload.ensures.opened task known e none key same bare fed in
      along c.begin_payload.new.self _ _ (λ z. rw (source, fault) refl) (c.begin_payload.ensures.reads_on task known at_payload source);
}
