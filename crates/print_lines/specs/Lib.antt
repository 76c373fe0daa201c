pub mod TextsCode
