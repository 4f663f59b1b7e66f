pub mod RefutationText
