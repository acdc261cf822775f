-- A table that is read under terms: what is answered, and what is left in the block.
use Rattle.std.proofs.Common.{◌≡◌, Bool, true, false, List, [], Option, Some, None, Result, Ok, Err, refl, sym, ap, ◌∙◌, if◌then◌else◌}
use Rattle.cose_map.specs.Key.Value.{KeyValue}
use Rattle.cose_map.specs.Label.{LabelValue}
use Rattle.cose_map.specs.Map.Read.{Read}
use Rattle.cose_msg.specs.declared.context.Wanted.{Wanted}
use Rattle.cose_msg.specs.Message.{Setting}
use Rattle.cose_c.specs.declared.numbers.CoseStatus.{CoseStatus}
use Rattle.cose_c.specs.declared.stated.CoseTerms.{CoseTerms}
use Rattle.cose_c.specs.declared.table.keys.TableKeys.{TableKeys}
use Rattle.cose_c.specs.declared.table.kept.TableTerms.{TableTerms}
use Rattle.cose_c.specs.KeySet.{key_set_numbers}
use Rattle.cose_c.specs.Numbers.{plain_status, refused_status}
use Rattle.cose_c.specs.Stated.{is_unknown, labels_stated, setting_among}
use Rattle.cose_c.specs.Table.{keys_held, keys_in, keys_read}
use Rattle.cose_c.specs.TableUnder.{setting_by_terms, setting_in_table, setting_left, setting_of_both, setting_with_keys, table_numbers}
use Rattle.cose_c.specs.Terms.{kinds_given}

module _ (terms : CoseTerms) (labels : List LabelValue) (keys : List KeyValue) where
  -- Terms that are good with some keys are good, and so refused for their key set alone.
  among_good : (unknown : Bool) (kinds : Result Wanted CoseStatus) (setting : Setting) (refusal : _) →
      Ok setting ≡ (if unknown then Err (plain_status 12) else setting_among terms labels (Ok keys) kinds) →
      (if unknown then Err (plain_status 12) else setting_among terms labels (Err refusal) kinds) ≡ Err (refused_status 4 refusal)
  among_good true kinds setting refusal is = absurd cc
  among_good false (Ok kinds) setting refusal is = refl
  among_good false (Err status) setting refusal is = absurd cc

  -- Those that are refused with some keys are refused so with any.
  among_refused : (unknown : Bool) (kinds : Result Wanted CoseStatus) (status : CoseStatus) (read : Read (List KeyValue)) →
      Err status ≡ (if unknown then Err (plain_status 12) else setting_among terms labels (Ok keys) kinds) →
      (if unknown then Err (plain_status 12) else setting_among terms labels read kinds) ≡ Err status
  among_refused true kinds status read is = sym is
  among_refused false (Ok kinds) status read is = absurd cc
  among_refused false (Err other) status read is = sym is

module _ (terms : CoseTerms) where
  refused_for_keys : (stated : TableTerms) (refusal : _) → Ok (setting_with_keys stated []) ≡ setting_by_terms terms (Ok []) → setting_by_terms terms (Err refusal) ≡ Err (refused_status 4 refusal)
  refused_for_keys stated refusal is = among_good terms (labels_stated terms.understood) [] (is_unknown terms) (kinds_given terms.aad.now terms.kind) (setting_with_keys stated []) refusal is

  refused_for_terms : (status : CoseStatus) (read : Read (List KeyValue)) → Err status ≡ setting_by_terms terms (Ok []) → setting_by_terms terms read ≡ Err status
  refused_for_terms status read is = among_refused terms (labels_stated terms.understood) [] (is_unknown terms) (kinds_given terms.aad.now terms.kind) status read is

  with_good : (stated : TableTerms) (read : Read (List KeyValue)) → ((keys : List KeyValue) → Ok (setting_with_keys stated keys) ≡ setting_by_terms terms (Ok keys)) →
      key_set_numbers read ≡ table_numbers (setting_by_terms terms read)
  with_good stated (Ok keys) is = rw (← is keys) refl
  with_good stated (Err refusal) is = rw (refused_for_keys stated refusal (is [])) refl

  left_good : (stated : TableTerms) (read : Read (List KeyValue)) (content : Option TableKeys) →
      ((keys : List KeyValue) → Ok (setting_with_keys stated keys) ≡ setting_by_terms terms (Ok keys)) → keys_in content ≡ keys_read read →
      setting_of_both content (Some stated) ≡ setting_left (setting_by_terms terms read)
  left_good stated (Ok keys) None is has = absurd cc
  left_good stated (Ok keys) (Some table) is has = let same : keys_held table ≡ keys = cc in rw (← is keys, same) refl
  left_good stated (Err refusal) None is has = rw (refused_for_keys stated refusal (is [])) refl
  left_good stated (Err refusal) (Some table) is has = absurd cc

  -- The answer, and what is left, where the terms are good but for their keys, and where they are refused.
  pub numbers_good : (result : Result TableTerms CoseStatus) (stated : TableTerms) (read : Read (List KeyValue)) → result ≡ Ok stated →
      ((keys : List KeyValue) → setting_in_table result keys ≡ setting_by_terms terms (Ok keys)) → key_set_numbers read ≡ table_numbers (setting_by_terms terms read)
  numbers_good result stated read found is = with_good stated read (λ keys. ap (λ r. setting_in_table r keys) (sym found) ∙ is keys)

  pub kept_good : (result : Result TableTerms CoseStatus) (stated : TableTerms) (read : Read (List KeyValue)) (content : Option TableKeys) → result ≡ Ok stated →
      ((keys : List KeyValue) → setting_in_table result keys ≡ setting_by_terms terms (Ok keys)) → keys_in content ≡ keys_read read →
      setting_of_both content (Some stated) ≡ setting_left (setting_by_terms terms read)
  kept_good result stated read content found is has = left_good stated read content (λ keys. ap (λ r. setting_in_table r keys) (sym found) ∙ is keys) has

  pub refused : (result : Result TableTerms CoseStatus) (status : CoseStatus) (read : Read (List KeyValue)) → result ≡ Err status →
      ((keys : List KeyValue) → setting_in_table result keys ≡ setting_by_terms terms (Ok keys)) → setting_by_terms terms read ≡ Err status
  refused result status read found is = refused_for_terms status read (ap (λ r. setting_in_table r []) (sym found) ∙ is [])
