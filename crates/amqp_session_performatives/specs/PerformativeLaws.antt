-- A performative is read as it is written, two have two items, and bytes give one.
use Rattle.std.proofs.Common.{◌≡◌, ℕ, true, false, List, [], ◌∷◌, Option, Some, refl, sym, ◌∙◌, ap}
use Rattle.std.specs.Prelude.{◌==◌}
use Rattle.serde_amqp_item.specs.Item.{Item}
use Rattle.serde_amqp_item.specs.Record.{record_item}
use Rattle.serde_amqp_de.specs.Decides.{Decided}
use Rattle.serde_amqp_de.specs.Takes.{reads_as_null}
use Rattle.serde_amqp_values.specs.Choice.{RowsDecided, codes_differ}
use Rattle.serde_amqp_values.specs.ChoiceAgain.{choice_again, items_apart}
use Rattle.serde_amqp_values.specs.ChoiceDeciding.{choice_decided}
use Rattle.amqp_session_performatives.specs.Open.{open_name, open_fields, open_takes}
use Rattle.amqp_session_performatives.specs.Begin.{begin_name, begin_fields, begin_takes}
use Rattle.amqp_session_performatives.specs.Attach.{attach_name, attach_fields, attach_takes}
use Rattle.amqp_session_performatives.specs.Flow.{flow_name, flow_fields, flow_takes}
use Rattle.amqp_session_performatives.specs.Transfer.{transfer_name, transfer_fields, transfer_takes}
use Rattle.amqp_session_performatives.specs.Disposition.{disposition_name, disposition_fields, disposition_takes}
use Rattle.amqp_session_performatives.specs.Detach.{detach_name, detach_fields, detach_takes}
use Rattle.amqp_session_performatives.specs.End.{end_name, end_fields, end_takes}
use Rattle.amqp_session_performatives.specs.Close.{close_name, close_fields, close_takes}
use Rattle.amqp_session_performatives.specs.OpenLaws.{open_each_decided, open_each_again, open_same}
use Rattle.amqp_session_performatives.specs.BeginLaws.{begin_each_decided, begin_each_again, begin_same}
use Rattle.amqp_session_performatives.specs.AttachLaws.{attach_each_decided, attach_each_again, attach_same}
use Rattle.amqp_session_performatives.specs.FlowLaws.{flow_each_decided, flow_each_again, flow_same}
use Rattle.amqp_session_performatives.specs.TransferLaws.{transfer_each_decided, transfer_each_again, transfer_same}
use Rattle.amqp_session_performatives.specs.DispositionLaws.{disposition_each_decided, disposition_each_again, disposition_same}
use Rattle.amqp_session_performatives.specs.DetachLaws.{detach_each_decided, detach_each_again, detach_same}
use Rattle.amqp_session_performatives.specs.EndLaws.{end_each_decided, end_each_again, end_same}
use Rattle.amqp_session_performatives.specs.CloseLaws.{close_each_decided, close_each_again, close_same}
use Rattle.amqp_session_performatives.specs.Performative.{performative_item, performative_table, performative_taken}
use Rattle.amqp_session_performatives.specs.declared.performative.Performative.{Performative}
use Rattle.amqp_session_performatives.specs.declared.performative.Performative.TheVariants.{Open, Begin, Attach, Flow, Transfer, Disposition, Detach, End, Close}

pub performatives_decided : RowsDecided performative_table
performatives_decided = (open_each_decided, (begin_each_decided, (attach_each_decided, (flow_each_decided, (transfer_each_decided, (disposition_each_decided, (detach_each_decided, (end_each_decided, (close_each_decided, tt)))))))))

pub performatives_differ : codes_differ performative_table ≡ true
performatives_differ = refl

pub performative_decided : Decided performative_taken
performative_decided = choice_decided performative_table performatives_decided

pub performative_again : (p : Performative) → performative_taken (performative_item p) ≡ Some (performative_item p)
performative_again (Open x) = choice_again performative_table 0x10 (record { code = 0x10; name = open_name; takes = open_takes }) (open_fields x) refl refl (open_each_again x)
performative_again (Begin x) = choice_again performative_table 0x11 (record { code = 0x11; name = begin_name; takes = begin_takes }) (begin_fields x) refl refl (begin_each_again x)
performative_again (Attach x) = choice_again performative_table 0x12 (record { code = 0x12; name = attach_name; takes = attach_takes }) (attach_fields x) refl refl (attach_each_again x)
performative_again (Flow x) = choice_again performative_table 0x13 (record { code = 0x13; name = flow_name; takes = flow_takes }) (flow_fields x) refl refl (flow_each_again x)
performative_again (Transfer x) = choice_again performative_table 0x14 (record { code = 0x14; name = transfer_name; takes = transfer_takes }) (transfer_fields x) refl refl (transfer_each_again x)
performative_again (Disposition x) = choice_again performative_table 0x15 (record { code = 0x15; name = disposition_name; takes = disposition_takes }) (disposition_fields x) refl refl (disposition_each_again x)
performative_again (Detach x) = choice_again performative_table 0x16 (record { code = 0x16; name = detach_name; takes = detach_takes }) (detach_fields x) refl refl (detach_each_again x)
performative_again (End x) = choice_again performative_table 0x17 (record { code = 0x17; name = end_name; takes = end_takes }) (end_fields x) refl refl (end_each_again x)
performative_again (Close x) = choice_again performative_table 0x18 (record { code = 0x18; name = close_name; takes = close_takes }) (close_fields x) refl refl (close_each_again x)

pub performative_present : (p : Performative) → reads_as_null (performative_item p) ≡ false
performative_present (Open x) = refl
performative_present (Begin x) = refl
performative_present (Attach x) = refl
performative_present (Flow x) = refl
performative_present (Transfer x) = refl
performative_present (Disposition x) = refl
performative_present (Detach x) = refl
performative_present (End x) = refl
performative_present (Close x) = refl

-- the code of its descriptor, and its fields
abbrev performative_code : Performative → ℕ
performative_code (Open x) = 0x10
performative_code (Begin x) = 0x11
performative_code (Attach x) = 0x12
performative_code (Flow x) = 0x13
performative_code (Transfer x) = 0x14
performative_code (Disposition x) = 0x15
performative_code (Detach x) = 0x16
performative_code (End x) = 0x17
performative_code (Close x) = 0x18

abbrev performative_fields : Performative → List Item
performative_fields (Open x) = open_fields x
performative_fields (Begin x) = begin_fields x
performative_fields (Attach x) = attach_fields x
performative_fields (Flow x) = flow_fields x
performative_fields (Transfer x) = transfer_fields x
performative_fields (Disposition x) = disposition_fields x
performative_fields (Detach x) = detach_fields x
performative_fields (End x) = end_fields x
performative_fields (Close x) = close_fields x

performative_record : (p : Performative) → performative_item p ≡ record_item (performative_code p) (performative_fields p)
performative_record (Open x) = refl
performative_record (Begin x) = refl
performative_record (Attach x) = refl
performative_record (Flow x) = refl
performative_record (Transfer x) = refl
performative_record (Disposition x) = refl
performative_record (Detach x) = refl
performative_record (End x) = refl
performative_record (Close x) = refl

-- two with two descriptors have two items
others_apart : (p q : Performative) → (performative_code p == performative_code q) ≡ false → performative_item p ≡ performative_item q → ⊥
others_apart p q n e = items_apart (performative_code p) (performative_code q) _ _ n (sym (performative_record p) ∙ (e ∙ performative_record q))

pub performative_same : (p q : Performative) → performative_item p ≡ performative_item q → p ≡ q
performative_same (Open x) (Open y) e = ap Open (open_same x y e)
performative_same (Begin x) (Begin y) e = ap Begin (begin_same x y e)
performative_same (Attach x) (Attach y) e = ap Attach (attach_same x y e)
performative_same (Flow x) (Flow y) e = ap Flow (flow_same x y e)
performative_same (Transfer x) (Transfer y) e = ap Transfer (transfer_same x y e)
performative_same (Disposition x) (Disposition y) e = ap Disposition (disposition_same x y e)
performative_same (Detach x) (Detach y) e = ap Detach (detach_same x y e)
performative_same (End x) (End y) e = ap End (end_same x y e)
performative_same (Close x) (Close y) e = ap Close (close_same x y e)
performative_same p q e = absurd (others_apart p q refl e)
