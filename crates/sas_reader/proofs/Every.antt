-- All laws of a format with a grammar.
use Rattle.sas_reader.proofs.Imports.{Format, Node, Grammar, Laws}
use Rattle.sas_reader.proofs.Live.{fault_stays}
use Rattle.sas_reader.proofs.Whole.{one_value, one_slot, no_slot_at_end, text_is_live, fault_is_dead, one_fault, one_reading, fault_is_no_text}
use Rattle.sas_reader.proofs.Texts.{texts_are_ended_lines, text_is_read}
use Rattle.sas_reader.proofs.Faults.{faultless_is_live, some_reading}

pub laws_of : {T V I S : Type 0} (F : Format V I S) (Fits : I → Type 0) (node : T → Node T V I S) (start : T) → Grammar F Fits node start → Laws F
laws_of F Fits node start g = record {
  one_value = one_value F Fits node start g;
  texts_are_ended_lines = texts_are_ended_lines F Fits node start g;
  text_is_read = text_is_read F Fits node start g;
  one_slot = one_slot F Fits node start g;
  no_slot_at_end = no_slot_at_end F Fits node start g;
  text_is_live = text_is_live F;
  fault_is_dead = fault_is_dead F Fits node start g;
  faultless_is_live = faultless_is_live F Fits node start g;
  one_fault = one_fault F Fits node start g;
  fault_stays = λ limit bytes more f h. fault_stays F limit bytes more f h;
  fault_is_no_text = fault_is_no_text F Fits node start g;
  one_reading = one_reading F Fits node start g;
  some_reading = some_reading F Fits node start g;
}
